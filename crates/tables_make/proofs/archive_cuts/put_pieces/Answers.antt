use Rattle.std.proofs.Common.{◌≡◌, ℕ, ◌+◌, ◌<◌, ◌∷◌, [], length, take, drop, cond, Some, refl, sym, ap, ap₂, subst, ◌∙◌}
use Rattle.std.proofs.Common.{arith, List}
use Rattle.std.specs.Prelude.{ℤ, pos}
use Rattle.std.specs.FinMap as finite
use Rattle.std.proofs.lemmas.List.{take_min, drop_min}
use Rattle.sqlite_value.specs.declared.value.Value.TheVariants.{Int, Text, Blob}
use Rattle.sqlite.specs.Held.{state}
use Rattle.tables_schema.specs.Forms.{piece}
use Rattle.tables_sql.specs.Contents.{Contents, contents_of}
use Rattle.tables_sql.proofs.Going.{goes_first, goes_next, goes_done}
use Rattle.tables_sql.proofs.Orders.{numbered_total}
use Rattle.tables_sql.proofs.Steps.{clean_before}
use Rattle.tables_sql.proofs.TestFailures.{passed_on, survives_both}
use Rattle.tables_sql.proofs.Transactions.{survives_none}
use Rattle.tables_sql.proofs.Under.{piece_after}
use Rattle.tables_world.specs.Pieces.{piece_size, pieces_by}
use Rattle.tables_make.specs.Cutting.{put_pieces}
use Rattle.tables_rows.specs.ObjectRows.{PieceRow}
use Rattle.tables_rows.specs.Reasons.{Both, RowsOf}
use Rattle.tables_make.proofs.Cuts.{size, first_piece, no_piece, no_end, at_end}
use Rattle.tables_rows.proofs.Reasons.{AreLeft, left_whole, first_among, is_none, left_next, next_reason, numbers_of}
use Rattle.tables_rows.proofs.Reasons.{put_reason}
use Rattle.tables_make.proofs.Uncut.{apart}
use Rattle.tables_rows.proofs.Inside.{done_fails}
use Rattle.tables_rows.proofs.Failed.{none_done}
use Rattle.tables_make.proofs.archive_cuts.put_pieces.Goals as goal

pub pieces-init : goal.pieces-init
pieces-init g c =
    let first = state g.S.Store c.args.tx.now.conn.now in
    record {
      same_reference = refl;
      goes =
          λ clean. goes_first (λ es (x : Contents). record x { pieces = put_pieces c.args.base.now es x.pieces })
          (pieces_by c.args.bytes.now 1 c.args.bytes.now) first (c.requires.under_way clean) (c.requires.is_open clean);
      exists = c.requires.exists;
      free = λ clean k more. c.requires.fits clean (pos k);
      left =
          λ clean. left_whole (RowsOf (PieceRow c.args.base.now) (pieces_by c.args.bytes.now 1 c.args.bytes.now))
          first.now;
      survives = survives_none first;
    }

pub pieces-preserved : goal.pieces-preserved
pieces-preserved g c =
    let base = c.args.base.now in
    let first = state g.S.Store c.args.tx.now.conn.now in
    let now = state g.S.Store c.pieces.tx.conn.now in
    let next = state g.S.Store c.insert.new.tx.conn.now in
    let change : List (ℤ × List ℕ) → Contents → Contents = λ es x. record x { pieces = put_pieces base es x.pieces } in
    let was = contents_of now.now in
    let bytes = c.pieces.rest.now in
    let n = c.pieces.number in
    let front = c.split_at.result.0.now in
    let after = c.split_at.result.1.now in
    let some : 0 < length bytes = no_end bytes (sym c.is_empty.ensures ∙ c.if-is_empty.false) in
    let front_is : front ≡ take piece_size bytes =
    c.split_at.ensures.front ∙ ap (λ k. take k bytes) c.min.ensures ∙ take_min 65536 bytes
    ∙ ap (λ k. take k bytes) (sym size) in
    let after_is : after ≡ drop piece_size bytes =
    c.split_at.ensures.back ∙ ap (λ k. drop k bytes) c.min.ensures ∙ drop_min 65536 bytes
    ∙ ap (λ k. drop k bytes) (sym size) in
    let split : pieces_by bytes n bytes ≡ (pos n, front) ∷ pieces_by after (n + 1) after =
    first_piece bytes n some ∙ ap₂ (λ p (r : List ℕ). (pos n, p) ∷ pieces_by r (n + 1) r) (sym front_is)
    (sym after_is) in
    record {
      same_reference = c.in_ok-insert.ensures.frame.same_reference ∙ c.pieces.invariant.same_reference;
      goes =
          λ clean. goes_next change (pieces_by c.args.bytes.now 1 c.args.bytes.now) first now next
          (pieces_by bytes n bytes) (pieces_by after (n + 1) after) _
          (c.pieces.invariant.goes (clean_before now next _ c.insert.ensures.frame.survives clean))
          (c.in_ok-insert.ensures.done clean) (ap (λ es. change es was) split);
      exists =
          λ clean. piece_after now next _ (c.in_ok-insert.ensures.done clean)
          (c.pieces.invariant.exists (clean_before now next _ c.insert.ensures.frame.survives clean));
      free = λ clean k more.
          let early = clean_before now next _ c.insert.ensures.frame.survives clean in
          ap (λ (x : Contents). finite.get x.pieces (base, pos k)) (c.in_ok-insert.ensures.done clean).contents
          ∙ finite.get-insert numbered_total was.pieces (base, pos n) front (base, pos k)
          ∙ ap (λ b. cond b (Some front) (finite.get was.pieces (base, pos k))) (apart base k n more)
          ∙ c.pieces.invariant.free early k (omega (arith, more));
      left = λ clean.
          let early = clean_before now next _ c.insert.ensures.frame.survives clean in
          let rows = RowsOf (PieceRow base) (pieces_by c.args.bytes.now 1 c.args.bytes.now) in
          let left =
          subst (λ es. AreLeft rows (RowsOf (PieceRow base) es) first.now now.now) split
          (c.pieces.invariant.left early) in
          left_next rows (PieceRow base (pos n, front)) (RowsOf (PieceRow base) (pieces_by after (n + 1) after))
          first.now now.now next.now left (c.pieces.invariant.goes early).changes.schema
          (c.in_ok-insert.ensures.numbers clean);
      survives = survives_both first now next c.pieces.invariant.survives c.insert.ensures.frame.survives;
    }

pub returns-then-is_empty : goal.returns-then-is_empty
returns-then-is_empty g c = record {
  frame =
      record {
        same_reference = c.pieces.invariant.same_reference;
        failed = λ clean. tt;
        survives = c.pieces.invariant.survives;
      };
  done = λ clean.
      let first = state g.S.Store c.args.tx.now.conn.now in
      let now = state g.S.Store c.pieces.tx.conn.now in
      let bytes = c.pieces.rest.now in
      let end : bytes ≡ [] = at_end bytes (sym c.is_empty.ensures ∙ c.if-is_empty.true) in
      let none : pieces_by bytes c.pieces.number bytes ≡ [] =
      ap (pieces_by bytes c.pieces.number) end ∙ no_piece bytes c.pieces.number in
      goes_done (λ es (x : Contents). record x { pieces = put_pieces c.args.base.now es x.pieces })
      (pieces_by c.args.bytes.now 1 c.args.bytes.now) first now (pieces_by bytes c.pieces.number bytes)
      (ap (λ es. record (contents_of now.now) { pieces = put_pieces c.args.base.now es (contents_of now.now).pieces })
      none) (c.pieces.invariant.goes clean);
  numbers =
      λ clean. numbers_of _ _ (state g.S.Store c.args.tx.now.conn.now).now (state g.S.Store c.pieces.tx.conn.now).now
      (c.pieces.invariant.left clean);
  cause = λ clean. tt;
}

-- one of them wasn't put: none was there before it
pub returns-in_err-insert : goal.returns-in_err-insert
returns-in_err-insert g c = record {
  frame =
      done_fails g.S.Store c.args.tx.now.conn c.pieces.tx.conn c.insert.new.tx.conn _ c.pieces.invariant.same_reference
      (λ clean. (c.pieces.invariant.goes clean).changes) c.pieces.invariant.survives
      c.from_residual.result c.insert.ensures.frame.same_reference c.in_err-insert.ensures.frame.failed
      c.insert.ensures.frame.survives;
  done = λ clean. none_done c.from_residual.result _ _ c.from_residual.ensures.1;
  numbers = λ clean. none_done c.from_residual.result _ _ c.from_residual.ensures.1;
  cause = λ clean.
      let base = c.args.base.now in
      let first = state g.S.Store c.args.tx.now.conn.now in
      let now = state g.S.Store c.pieces.tx.conn.now in
      let next = state g.S.Store c.insert.new.tx.conn.now in
      let bytes = c.pieces.rest.now in
      let n = c.pieces.number in
      let front = c.split_at.result.0.now in
      let after = c.split_at.result.1.now in
      let some : 0 < length bytes = no_end bytes (sym c.is_empty.ensures ∙ c.if-is_empty.false) in
      let front_is : front ≡ take piece_size bytes =
      c.split_at.ensures.front ∙ ap (λ k. take k bytes) c.min.ensures ∙ take_min 65536 bytes
      ∙ ap (λ k. take k bytes) (sym size) in
      let split : pieces_by bytes n bytes
      ≡ (pos n, front) ∷ pieces_by (drop piece_size bytes) (n + 1) (drop piece_size bytes) =
      first_piece bytes n some ∙ ap
      (λ p. (pos n, p) ∷ pieces_by (drop piece_size bytes) (n + 1) (drop piece_size bytes)) (sym front_is) in
      let rows = RowsOf (PieceRow base) (pieces_by c.args.bytes.now 1 c.args.bytes.now) in
      let row = PieceRow base (pos n, front) in
      let later = RowsOf (PieceRow base) (pieces_by (drop piece_size bytes) (n + 1) (drop piece_size bytes)) in
      let early = clean_before now next _ c.insert.ensures.frame.survives clean in
      passed_on c.from_residual.result _ _ c.from_residual.ensures.1
      (next_reason rows (Both row later) first now next _ (c.pieces.invariant.goes early).changes
      c.pieces.invariant.survives (subst (λ es. AreLeft rows (RowsOf (PieceRow base) es) first.now now.now) split
      (c.pieces.invariant.left early)) _
      (put_reason (Both row later) now next piece (Text base ∷ Int (pos n) ∷ Blob front ∷ []) _ (first_among row later)
      (is_none _ (c.pieces.invariant.free early n (omega arith))) _ (c.in_err-insert.ensures.cause clean)));
}

pub returns : goal.returns
returns g c = record {
  frame =
      record {
        same_reference = c.pieces.invariant.same_reference;
        failed = λ clean. let done =
            (c.pieces.invariant.goes clean).changes in
            record { was_open = λ up. done.was_open; committed = λ up. done.committed };
        survives = c.pieces.invariant.survives;
      };
  done = λ clean. tt;
  numbers = λ clean. tt;
  cause = λ clean. tt;
}
