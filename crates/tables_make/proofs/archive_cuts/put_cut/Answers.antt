use Rattle.std.proofs.Common.{◌≡◌, ℕ, List, take, drop, string_bytes, sym, ap, ap₂, subst, ◌∙◌}
use Rattle.std.specs.FinMap as finite
use Rattle.sqlite.specs.Held.{state}
use Rattle.sqlite.specs.State.{HasCleanDisk}
use Rattle.sqlite.specs.Effect.{Database}
use Rattle.tables_sql.specs.Contents.{Bytes, Stored, Contents, numbered_cmp}
use Rattle.tables_sql.specs.Rowids.{NumbersOn}
use Rattle.tables_sql.proofs.Orders.{texts_total, texts_antisymmetric}
use Rattle.tables_sql.proofs.Scans.{on_ok}
use Rattle.tables_sql.proofs.Steps.{clean_before, under_after}
use Rattle.tables_sql.proofs.TestFailures.{passed_on, survives_both}
use Rattle.tables_sql.proofs.Transactions.{done_both, steps_both}
use Rattle.tables_sql.proofs.Under.{piece_after}
use Rattle.tables_rows.specs.Entries.{stored_of}
use Rattle.model.specs.World.{Path}
use Rattle.tables_world.specs.Pieces.{piece_size, row_part, pieces_by, further_pieces}
use Rattle.tables_make.specs.Cutting.{cut_row}
use Rattle.tables_rows.specs.ObjectRows.{ObjectRow, PieceRow}
use Rattle.tables_make.specs.Migrating.{CutRows}
use Rattle.tables_rows.specs.Reasons.{RowsOf}
use Rattle.tables_make.proofs.Cuts.{further, size}
use Rattle.tables_rows.proofs.Reasons.{AreLeft, as_reason, is_none, left_next, next_reason, none_put, numbers_both}
use Rattle.tables_rows.proofs.Reasons.{put_reason, removal_reason, row_among}
use Rattle.tables_make.proofs.Steps.{written}
use Rattle.tables_make.proofs.Uncut.{deleted, row_is}
use Rattle.tables_rows.proofs.Inside.{done_fails, done_stays}
use Rattle.tables_rows.proofs.Failed.{none_done, always_failed}
use Rattle.tables_make.proofs.archive_cuts.put_cut.Goals as goal

-- once the row was put again, the pieces are left
pieces_left : (p base : Path) (o : Stored) (after : List ℕ) (a b d : Database) → base ≡ p
    → after ≡ drop piece_size o.nar → b.schema ≡ a.schema → NumbersOn 0 a b → NumbersOn 1 b d
    → AreLeft (CutRows p o) (RowsOf (PieceRow base) (pieces_by after 1 after)) a d
pieces_left p base o after a b d named rest same none one =
    let rows = CutRows p o in
    let row = ObjectRow p (record o { nar = row_part o.nar }) in
    let left =
    left_next rows row (RowsOf (PieceRow p) (further_pieces o.nar)) a b d (none_put rows a b none) same one in
    subst (λ es. AreLeft rows (RowsOf (PieceRow base) es) a d) (sym (further o.nar after rest))
    (subst (λ q. AreLeft rows (RowsOf (PieceRow q) (further_pieces o.nar)) a d) (sym named) left)

pub insert-requires-clause-under : goal.insert-requires-clause-under
insert-requires-clause-under g c clean =
    under_after (state g.S.Store c.args.tx.now.conn.now) (state g.S.Store c.delete.new.tx.conn.now) _
    (c.in_ok-delete.ensures.done clean)

pub returns : goal.returns
returns g c = record {
  frame =
      let a = state g.S.Store c.args.tx.now.conn.now in
      let b = state g.S.Store c.delete.new.tx.conn.now in
      let d = state g.S.Store c.insert.new.tx.conn.now in
      done_stays g.S.Store c.args.tx.now.conn c.insert.new.tx.conn c.put_pieces.new.tx.conn _
      (c.insert.ensures.frame.same_reference ∙ c.delete.ensures.frame.same_reference)
      (steps_both a b d _ _ c.in_ok-delete.ensures.done c.insert.ensures.frame.survives c.in_ok-insert.ensures.done)
      (survives_both a b d c.delete.ensures.frame.survives c.insert.ensures.frame.survives)
      c.put_pieces.result c.put_pieces.ensures.frame;
  done =
      let a = state g.S.Store c.args.tx.now.conn.now in
      let b = state g.S.Store c.delete.new.tx.conn.now in
      let d = state g.S.Store c.insert.new.tx.conn.now in
      let object = c.args.object.now in
      let nar = object.nar.items in
      let hash = object.hash.items in
      let base = c.as_str-base.result.now in
      let front = c.split_at.result.0.now in
      let after = c.split_at.result.1.now in
      let digest = c.deref-2.result.now in
      let first : front ≡ row_part nar =
      c.split_at.ensures.front ∙ ap (take 65536) c.deref.ensures.value ∙ ap (λ k. take k nar) (sym size) in
      let rest : after ≡ drop piece_size nar =
      c.split_at.ensures.back ∙ ap (drop 65536) c.deref.ensures.value ∙ ap (λ k. drop k nar) (sym size) in
      done_both a d (state g.S.Store c.put_pieces.new.tx.conn.now) _ _
      (steps_both a b d _ _ c.in_ok-delete.ensures.done c.insert.ensures.frame.survives c.in_ok-insert.ensures.done)
      c.put_pieces.ensures.frame.survives
      c.put_pieces.result (cut_row (stored_of object).0 (stored_of object).1)
      (λ (x : Contents). written x base (string_bytes object.base) front digest hash after nar object.deriver object.ca
      c.as_str-base.ensures.value first c.deref-2.ensures.value rest)
      c.put_pieces.ensures.done;
  numbers = λ clean.
      let a = state g.S.Store c.args.tx.now.conn.now in
      let b = state g.S.Store c.delete.new.tx.conn.now in
      let d = state g.S.Store c.insert.new.tx.conn.now in
      let e = state g.S.Store c.put_pieces.new.tx.conn.now in
      let object = c.args.object.now in
      let after = c.split_at.result.1.now in
      let rest : after ≡ drop piece_size object.nar.items =
      c.split_at.ensures.back ∙ ap (drop 65536) c.deref.ensures.value
      ∙ ap (λ k. drop k object.nar.items) (sym size) in
      let early = clean_before d e _ c.put_pieces.ensures.frame.survives clean in
      let first = c.in_ok-delete.ensures.done (clean_before b d _ c.insert.ensures.frame.survives early) in
      let done =
      steps_both a b d _ _ c.in_ok-delete.ensures.done c.insert.ensures.frame.survives c.in_ok-insert.ensures.done
      early in
      on_ok c.put_pieces.result _ _
      (numbers_both (CutRows (stored_of object).0 (stored_of object).1) _ a.now d.now e.now
      (pieces_left (string_bytes object.base) c.as_str-base.result.now (stored_of object).1 after a.now b.now d.now
      c.as_str-base.ensures.value rest first.schema
      (c.in_ok-delete.ensures.numbers (clean_before b d _ c.insert.ensures.frame.survives early))
      (c.in_ok-insert.ensures.numbers early)) done.schema) (c.put_pieces.ensures.numbers clean);
  cause = λ clean.
      let a = state g.S.Store c.args.tx.now.conn.now in
      let b = state g.S.Store c.delete.new.tx.conn.now in
      let d = state g.S.Store c.insert.new.tx.conn.now in
      let e = state g.S.Store c.put_pieces.new.tx.conn.now in
      let object = c.args.object.now in
      let nar = object.nar.items in
      let after = c.split_at.result.1.now in
      let rest : after ≡ drop piece_size nar =
      c.split_at.ensures.back ∙ ap (drop 65536) c.deref.ensures.value ∙ ap (λ k. drop k nar) (sym size) in
      let early = clean_before d e _ c.put_pieces.ensures.frame.survives clean in
      let first = c.in_ok-delete.ensures.done (clean_before b d _ c.insert.ensures.frame.survives early) in
      let done =
      steps_both a b d _ _ c.in_ok-delete.ensures.done c.insert.ensures.frame.survives c.in_ok-insert.ensures.done
      early in
      as_reason _ _ (next_reason (CutRows (stored_of object).0 (stored_of object).1) _ a d e _ done
      (survives_both a b d c.delete.ensures.frame.survives c.insert.ensures.frame.survives)
      (pieces_left (string_bytes object.base) c.as_str-base.result.now (stored_of object).1 after a.now b.now d.now
      c.as_str-base.ensures.value rest first.schema
      (c.in_ok-delete.ensures.numbers (clean_before b d _ c.insert.ensures.frame.survives early))
      (c.in_ok-insert.ensures.numbers early))) c.put_pieces.result (c.put_pieces.ensures.cause clean);
}

-- ---- why it isn't done

pub returns-in_err-delete : goal.returns-in_err-delete
returns-in_err-delete g c = record {
  frame =
      record {
        same_reference = c.delete.ensures.frame.same_reference;
        failed = λ clean. always_failed c.from_residual.result _ (c.in_err-delete.ensures.frame.failed clean);
        survives = c.delete.ensures.frame.survives;
      };
  done = λ clean. none_done c.from_residual.result _ _ c.from_residual.ensures.1;
  numbers = λ clean. none_done c.from_residual.result _ _ c.from_residual.ensures.1;
  cause =
      λ clean. passed_on c.from_residual.result _ _ c.from_residual.ensures.1
      (removal_reason _ (state g.S.Store c.args.tx.now.conn.now) (state g.S.Store c.delete.new.tx.conn.now) _
      (c.in_err-delete.ensures.cause clean));
}

pub returns-in_err-insert : goal.returns-in_err-insert
returns-in_err-insert g c = record {
  frame =
      done_fails g.S.Store c.args.tx.now.conn c.delete.new.tx.conn c.insert.new.tx.conn _
      c.delete.ensures.frame.same_reference c.in_ok-delete.ensures.done c.delete.ensures.frame.survives
      c.from_residual-in_err-insert.result c.insert.ensures.frame.same_reference c.in_err-insert.ensures.frame.failed
      c.insert.ensures.frame.survives;
  done = λ clean. none_done c.from_residual-in_err-insert.result _ _ c.from_residual-in_err-insert.ensures.1;
  numbers = λ clean. none_done c.from_residual-in_err-insert.result _ _ c.from_residual-in_err-insert.ensures.1;
  cause = λ clean.
      let a = state g.S.Store c.args.tx.now.conn.now in
      let b = state g.S.Store c.delete.new.tx.conn.now in
      let d = state g.S.Store c.insert.new.tx.conn.now in
      let object = c.args.object.now in
      let nar = object.nar.items in
      let first : c.split_at.result.0.now ≡ row_part nar =
      c.split_at.ensures.front ∙ ap (take 65536) c.deref.ensures.value ∙ ap (λ k. take k nar) (sym size) in
      let early = clean_before b d _ c.insert.ensures.frame.survives clean in
      let done = c.in_ok-delete.ensures.done early in
      let rows = CutRows (stored_of object).0 (stored_of object).1 in
      passed_on c.from_residual-in_err-insert.result _ _ c.from_residual-in_err-insert.ensures.1
      (next_reason rows rows a b d _ done c.delete.ensures.frame.survives
      (none_put rows a.now b.now (c.in_ok-delete.ensures.numbers early)) _
      (put_reason rows b d _ _ _ (row_among _ _ _ (RowsOf (PieceRow (string_bytes object.base)) (further_pieces nar))
      (row_is c.as_str-base.ensures.value first c.deref-2.ensures.value object.deriver object.ca))
      (is_none _ (ap (λ (x : Contents). finite.get x.objects c.as_str-base.result.now) done.contents
      ∙ deleted texts_total texts_antisymmetric _ c.as_str-base.result.now)) _
      (c.in_err-insert.ensures.cause clean)));
}

pub put_pieces-requires : goal.put_pieces-requires
put_pieces-requires g c =
    let a = state g.S.Store c.args.tx.now.conn.now in
    let b = state g.S.Store c.delete.new.tx.conn.now in
    let d = state g.S.Store c.insert.new.tx.conn.now in
    let early : HasCleanDisk d → HasCleanDisk b = clean_before b d _ c.insert.ensures.frame.survives in
    record {
      under_way =
          λ clean. under_after a d _ (steps_both a b d _ _ c.in_ok-delete.ensures.done c.insert.ensures.frame.survives
          c.in_ok-insert.ensures.done clean);
      is_open = λ clean. (c.in_ok-insert.ensures.done clean).is_open;
      exists =
          λ clean. piece_after b d _ (c.in_ok-insert.ensures.done clean)
          (piece_after a b _ (c.in_ok-delete.ensures.done (early clean))
          (c.requires.frame.exists (clean_before a b _ c.delete.ensures.frame.survives (early clean))));
      -- no piece of it was there, and none is since
      fits = λ clean n.
          let pieces =
          ap (λ (x : Contents). x.pieces) (c.in_ok-insert.ensures.done clean).contents
          ∙ ap (λ (x : Contents). x.pieces) (c.in_ok-delete.ensures.done (early clean)).contents in
          ap₂ (λ (m : finite.FinMap numbered_cmp Bytes) p. finite.get m (p, n)) pieces c.as_str-base.ensures.value
          ∙ c.requires.frame.fits (clean_before a b _ c.delete.ensures.frame.survives (early clean)) n;
    }
