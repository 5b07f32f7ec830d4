use Rattle.std.proofs.Common.{◌≡◌, ℕ, ◌+◌, ◌*◌, ◌<◌, ◌≤◌, length, map, arith, [], ◌∷◌, refl, sym, ap, subst, ◌∙◌, List}
use Rattle.std.specs.Prelude.{ℤ, pos}
use Rattle.std.specs.FinMap as finite
use Rattle.sqlite_value.specs.declared.value.Value.TheVariants.{Int, Text, Blob}
use Rattle.sqlite_value.specs.Order.{Row}
use Rattle.sqlite.specs.Held.{state}
use Rattle.streams.specs.Cut.{piece_of}
use Rattle.tables_schema.specs.Forms.{piece}
use Rattle.tables_sql.specs.Contents.{Contents, contents_of}
use Rattle.tables_world.specs.Pieces.{further_pieces}
use Rattle.tables_writes.specs.Rewritten.{AreFree, put_pieces}
use Rattle.tables_rows.specs.Reasons.{Both, RowsOf}
use Rattle.tables_rows.specs.ObjectRows.{PieceRow}
use Rattle.tables_sql.proofs.Going.{Goes, goes_first, goes_next, goes_done}
use Rattle.tables_sql.proofs.Transactions.{survives_none}
use Rattle.tables_writes.proofs.Cuts.{left_from, all_left, next_left, past_end}
use Rattle.tables_writes.proofs.AfterWrites.{clean_before}
use Rattle.tables_sql.proofs.TestFailures.{passed_on, survives_both}
use Rattle.tables_sql.proofs.Orders.{numbered_total}
use Rattle.tables_writes.proofs.Free.{free_next}
use Rattle.tables_rows.proofs.Reasons.{AreLeft, is_none, left_next, left_whole, next_reason, numbers_of, put_reason}
use Rattle.tables_rows.proofs.Reasons.{row_among}
use Rattle.tables_writes.proofs.Transactions.{pieces_exist}
use Rattle.tables_rows.proofs.Inside.{done_fails}
use Rattle.tables_rows.proofs.Failed.{none_done}
use Rattle.tables_writes.proofs.archive_pieces.put_pieces.Goals as goal

pub pieces-init : goal.pieces-init
pieces-init g c =
    let first = state g.S.Store c.args.tx.now.conn.now in
    let nar = c.args.nar.now in
    let change : List (ℤ × List ℕ) → Contents → Contents =
    λ ps x. record x { pieces = put_pieces c.args.base.now ps x.pieces } in
    record {
      same_reference = refl;
      goes =
          λ clean. subst (λ ps. Goes change (further_pieces nar) first first ps) (sym (all_left nar))
          (goes_first change (further_pieces nar) first (c.requires.under_way clean) (c.requires.is_open clean));
      free =
          λ clean. subst (λ ps. AreFree (contents_of first.now).pieces
          (map (λ (e : ℤ × List ℕ). (c.args.base.now, e.0)) ps)) (sym (all_left nar)) (c.requires.fits clean);
      left = λ clean.
          let rows = RowsOf (PieceRow c.args.base.now) (further_pieces nar) in
          subst (λ ps. AreLeft rows (RowsOf (PieceRow c.args.base.now) ps) first.now first.now) (sym (all_left nar))
          (left_whole rows first.now);
      survives = survives_none first;
    }

pub pieces-preserved : goal.pieces-preserved
pieces-preserved g c =
    let base = c.args.base.now in
    let nar = c.args.nar.now in
    let first = state g.S.Store c.args.tx.now.conn.now in
    let now = state g.S.Store c.pieces.tx.conn.now in
    let next = state g.S.Store c.insert.new.tx.conn.now in
    let change : List (ℤ × List ℕ) → Contents → Contents = λ ps x. record x { pieces = put_pieces base ps x.pieces } in
    let was = contents_of now.now in
    let keys : ℤ × List ℕ → List ℕ × ℤ = λ e. (base, e.0) in
    let n = c.pieces.number in
    let more : 65536 * n < length nar = omega arith in
    let same : change (left_from n nar) was
    ≡ change (left_from (n + 1) nar)
    (record was { pieces = finite.insert was.pieces (base, pos n) c.piece.result.now }) =
    ap (λ ps. change ps was) (next_left n nar more)
    ∙ ap (λ f. change (left_from (n + 1) nar) (record was { pieces = finite.insert was.pieces (base, pos n) f }))
    (sym c.piece.ensures) in
    record {
      same_reference = c.in_ok-insert.ensures.frame.same_reference ∙ c.pieces.invariant.same_reference;
      goes =
          λ clean. goes_next change (further_pieces nar) first now next (left_from n nar) (left_from (n + 1) nar) _
          (c.pieces.invariant.goes (clean_before now next _ c.insert.ensures.frame.survives clean))
          (c.in_ok-insert.ensures.done clean) same;
      free = λ clean.
          let free =
          subst (λ ps. AreFree was.pieces (map keys ps)) (next_left n nar more)
          (c.pieces.invariant.free (clean_before now next _ c.insert.ensures.frame.survives clean)) in
          let after =
          free_next numbered_total was.pieces (base, pos n) c.piece.result.now (map keys (left_from (n + 1) nar))
          free in
          subst (λ (x : Contents). AreFree x.pieces (map keys (left_from (n + 1) nar)))
          (sym (c.in_ok-insert.ensures.done clean).contents) after;
      left = λ clean.
          let early = clean_before now next _ c.insert.ensures.frame.survives clean in
          let rows = RowsOf (PieceRow base) (further_pieces nar) in
          left_next rows (PieceRow base (pos n, piece_of n nar)) (RowsOf (PieceRow base) (left_from (n + 1) nar))
          first.now now.now next.now
          (subst (λ ps. AreLeft rows (RowsOf (PieceRow base) ps) first.now now.now) (next_left n nar more)
          (c.pieces.invariant.left early)) (c.pieces.invariant.goes early).changes.schema
          (c.in_ok-insert.ensures.numbers clean);
      survives = survives_both first now next c.pieces.invariant.survives c.insert.ensures.frame.survives;
    }

pub insert-requires-clause-exists : goal.insert-requires-clause-exists
insert-requires-clause-exists g c clean is_open =
    pieces_exist (state g.S.Store c.args.tx.now.conn.now) (state g.S.Store c.pieces.tx.conn.now) _
    (λ now. (c.pieces.invariant.goes now).changes) c.pieces.invariant.survives (λ early up. c.requires.exists early)
    clean

pub returns-then-place-count : goal.returns-then-place-count
returns-then-place-count g c = record {
  frame =
      record {
        same_reference = c.pieces.invariant.same_reference;
        failed = λ clean. tt;
        survives = c.pieces.invariant.survives;
      };
  done = λ clean.
      let nar = c.args.nar.now in
      let n = c.pieces.number in
      let now = state g.S.Store c.pieces.tx.conn.now in
      let change : List (ℤ × List ℕ) → Contents → Contents =
      λ ps x. record x { pieces = put_pieces c.args.base.now ps x.pieces } in
      let end : length nar ≤ 65536 * n = omega arith in
      goes_done change (further_pieces nar) (state g.S.Store c.args.tx.now.conn.now) now (left_from n nar)
      (ap (λ ps. change ps (contents_of now.now)) (past_end n nar end)) (c.pieces.invariant.goes clean);
  numbers =
      λ clean. numbers_of _ _ (state g.S.Store c.args.tx.now.conn.now).now (state g.S.Store c.pieces.tx.conn.now).now
      (c.pieces.invariant.left clean);
  cause = λ clean. tt;
}

-- one of them wasn't put: none was there before it
pub returns-in_err-insert : goal.returns-in_err-insert
returns-in_err-insert g c = record {
  frame =
      done_fails g.S.Store c.args.tx.now.conn c.pieces.tx.conn c.insert.new.tx.conn _ c.pieces.invariant.same_reference
      (λ clean. (c.pieces.invariant.goes clean).changes) c.pieces.invariant.survives
      c.from_residual.result c.insert.ensures.frame.same_reference c.in_err-insert.ensures.frame.failed
      c.insert.ensures.frame.survives;
  done = λ clean. none_done c.from_residual.result _ _ c.from_residual.ensures.1;
  numbers = λ clean. none_done c.from_residual.result _ _ c.from_residual.ensures.1;
  cause = λ clean.
      let base = c.args.base.now in
      let nar = c.args.nar.now in
      let first = state g.S.Store c.args.tx.now.conn.now in
      let now = state g.S.Store c.pieces.tx.conn.now in
      let next = state g.S.Store c.insert.new.tx.conn.now in
      let was = contents_of now.now in
      let n = c.pieces.number in
      let more : 65536 * n < length nar = omega arith in
      let early = clean_before now next _ c.insert.ensures.frame.survives clean in
      let free =
      subst (λ ps. AreFree was.pieces (map (λ (e : ℤ × List ℕ). (base, e.0)) ps)) (next_left n nar more)
      (c.pieces.invariant.free early) in
      let row : Row = Text base ∷ Int (pos n) ∷ Blob c.piece.result.now ∷ [] in
      let is : row ≡ Text base ∷ Int (pos n) ∷ Blob (piece_of n nar) ∷ [] =
      ap (λ b. Text base ∷ Int (pos n) ∷ Blob b ∷ []) c.piece.ensures in
      let rows = RowsOf (PieceRow base) (further_pieces nar) in
      let later = RowsOf (PieceRow base) (left_from (n + 1) nar) in
      passed_on c.from_residual.result _ _ c.from_residual.ensures.1
      (next_reason rows (Both (PieceRow base (pos n, piece_of n nar)) later) first now next _
      (c.pieces.invariant.goes early).changes c.pieces.invariant.survives
      (subst (λ ps. AreLeft rows (RowsOf (PieceRow base) ps) first.now now.now) (next_left n nar more)
      (c.pieces.invariant.left early)) _
      (put_reason (Both (PieceRow base (pos n, piece_of n nar)) later) now next piece row _
      (row_among piece row _ later is) (is_none _ free.free.0) _ (c.in_err-insert.ensures.cause clean)));
}

pub returns : goal.returns
returns g c = record {
  frame = record {
    same_reference = c.pieces.invariant.same_reference;
    failed = λ clean. let done =
        (c.pieces.invariant.goes clean).changes in
        record { was_open = λ up. done.was_open; committed = λ up. done.committed };
    survives = c.pieces.invariant.survives;
  };
  done = λ clean. tt;
  numbers = λ clean. tt;
  cause = λ clean. tt;
}
