use Rattle.std.proofs.Common.{not, sym, ap, arith, ◌∙◌}
use Rattle.std.specs.FinMap as finite
use Rattle.sqlite.specs.State.{HasCleanDisk}
use Rattle.sqlite.specs.Held.{state}
use Rattle.live.specs.Graph.{same}
use Rattle.tables_sql.specs.Contents.{Contents, contents_of}
use Rattle.tables_sql.proofs.Transactions.{done_both, failed_next, steps_both}
use Rattle.tables_sql.proofs.Rowids.{numbers_on_then}
use Rattle.tables_sql.proofs.Scans.{on_ok}
use Rattle.tables_sql.proofs.Steps.{under_after}
use Rattle.tables_writes.specs.Rewritten.{without_object}
use Rattle.tables_writes.proofs.Covered.{references_reported, outputs_reported, pieces_reported, single_removed}
use Rattle.tables_rows.proofs.Failing.{err_kept}
use Rattle.tables_rows.proofs.Failed.{none_done, always_failed}
use Rattle.tables_sql.proofs.TestFailures.{passed_on, survives_both}
use Rattle.tables_writes.proofs.Transactions.{changes_at, pieces_exist}
use Rattle.tables_rows.specs.Reasons.{NoRow}
use Rattle.tables_rows.proofs.Reasons.{as_reason, next_reason, none_put, removal_reason}
use Rattle.tables_writes.proofs.removal.delete_object.Goals as goal

pub delete_references-requires : goal.delete_references-requires
delete_references-requires g c = record {
  under_way = λ clean.
      let a = state g.S.Store c.args.tx.now.conn.now in
      let b = state g.S.Store c.delete.new.tx.conn.now in
      under_after a b _ (c.in_ok-delete.ensures.done clean);
  is_open = λ clean.
      let a = state g.S.Store c.args.tx.now.conn.now in
      let b = state g.S.Store c.delete.new.tx.conn.now in
      (c.in_ok-delete.ensures.done clean).is_open;
  fits = λ clean.
      let a = state g.S.Store c.args.tx.now.conn.now in
      let b = state g.S.Store c.delete.new.tx.conn.now in
      let it = c.in_ok-delete.ensures.done clean in
      let early : HasCleanDisk a = omega (arith, c.delete.ensures.frame.survives.clean, clean) in
      references_reported c.args.outline.now (contents_of a.now) c.args.path.now c.as_str-base.result.now
      c.in-Some.object.now (c.requires.tables early it.was_open).1 c.in-Some.ensures c.as_str-base.ensures.value
      (contents_of b.now) (ap (λ (x : Contents). x.refs) it.contents);
}

pub delete_outputs-requires : goal.delete_outputs-requires
delete_outputs-requires g c = record {
  under_way = λ clean.
      let a = state g.S.Store c.args.tx.now.conn.now in
      let b = state g.S.Store c.delete.new.tx.conn.now in
      let d = state g.S.Store c.delete_references.new.tx.conn.now in
      under_after a d _ ((steps_both a b d _ _ c.in_ok-delete.ensures.done c.delete_references.ensures.frame.survives
      c.in_ok-delete_references.ensures.done) clean);
  is_open = λ clean.
      let a = state g.S.Store c.args.tx.now.conn.now in
      let b = state g.S.Store c.delete.new.tx.conn.now in
      let d = state g.S.Store c.delete_references.new.tx.conn.now in
      ((steps_both a b d _ _ c.in_ok-delete.ensures.done c.delete_references.ensures.frame.survives
      c.in_ok-delete_references.ensures.done) clean).is_open;
  fits = λ clean.
      let a = state g.S.Store c.args.tx.now.conn.now in
      let b = state g.S.Store c.delete.new.tx.conn.now in
      let d = state g.S.Store c.delete_references.new.tx.conn.now in
      let it =
      (steps_both a b d _ _ c.in_ok-delete.ensures.done c.delete_references.ensures.frame.survives
      c.in_ok-delete_references.ensures.done) clean in
      let early : HasCleanDisk a =
      omega (
        arith,
        (survives_both a b d c.delete.ensures.frame.survives
            c.delete_references.ensures.frame.survives).clean,
        clean,
      ) in
      outputs_reported c.args.outline.now (contents_of a.now) c.args.path.now c.as_str-base.result.now
      c.in-Some.object.now (c.requires.tables early it.was_open).1 c.in-Some.ensures c.as_str-base.ensures.value
      (contents_of d.now) (ap (λ (x : Contents). x.outs) it.contents);
}

pub delete_pieces-requires : goal.delete_pieces-requires
delete_pieces-requires g c = record {
  under_way = λ clean.
      let a = state g.S.Store c.args.tx.now.conn.now in
      let b = state g.S.Store c.delete.new.tx.conn.now in
      let d = state g.S.Store c.delete_references.new.tx.conn.now in
      let e = state g.S.Store c.delete_outputs.new.tx.conn.now in
      under_after a e _ ((steps_both a d e _ _
      (steps_both a b d _ _ c.in_ok-delete.ensures.done c.delete_references.ensures.frame.survives
      c.in_ok-delete_references.ensures.done) c.delete_outputs.ensures.frame.survives
      c.in_ok-delete_outputs.ensures.done) clean);
  is_open = λ clean.
      let a = state g.S.Store c.args.tx.now.conn.now in
      let b = state g.S.Store c.delete.new.tx.conn.now in
      let d = state g.S.Store c.delete_references.new.tx.conn.now in
      let e = state g.S.Store c.delete_outputs.new.tx.conn.now in
      ((steps_both a d e _ _ (steps_both a b d _ _ c.in_ok-delete.ensures.done
      c.delete_references.ensures.frame.survives c.in_ok-delete_references.ensures.done)
      c.delete_outputs.ensures.frame.survives c.in_ok-delete_outputs.ensures.done) clean).is_open;
  exists = λ clean.
      let a = state g.S.Store c.args.tx.now.conn.now in
      let b = state g.S.Store c.delete.new.tx.conn.now in
      let d = state g.S.Store c.delete_references.new.tx.conn.now in
      let e = state g.S.Store c.delete_outputs.new.tx.conn.now in
      pieces_exist a e _ (steps_both a d e _ _
      (steps_both a b d _ _ c.in_ok-delete.ensures.done c.delete_references.ensures.frame.survives
      c.in_ok-delete_references.ensures.done) c.delete_outputs.ensures.frame.survives
      c.in_ok-delete_outputs.ensures.done)
      (survives_both a d e (survives_both a b d c.delete.ensures.frame.survives
      c.delete_references.ensures.frame.survives) c.delete_outputs.ensures.frame.survives)
      (λ early up. (c.requires.tables early up).0) clean;
  fits = λ clean.
      let a = state g.S.Store c.args.tx.now.conn.now in
      let b = state g.S.Store c.delete.new.tx.conn.now in
      let d = state g.S.Store c.delete_references.new.tx.conn.now in
      let e = state g.S.Store c.delete_outputs.new.tx.conn.now in
      let it =
      (steps_both a d e _ _ (steps_both a b d _ _ c.in_ok-delete.ensures.done
      c.delete_references.ensures.frame.survives c.in_ok-delete_references.ensures.done)
      c.delete_outputs.ensures.frame.survives c.in_ok-delete_outputs.ensures.done) clean in
      let early : HasCleanDisk a =
      omega (
        arith,
        (survives_both a d e
            (survives_both a b d c.delete.ensures.frame.survives c.delete_references.ensures.frame.survives)
            c.delete_outputs.ensures.frame.survives).clean,
        clean,
      ) in
      pieces_reported c.args.outline.now (contents_of a.now) c.args.path.now c.as_str-base.result.now
      c.in-Some.object.now (c.requires.tables early it.was_open).1 c.in-Some.ensures c.as_str-base.ensures.value
      (contents_of e.now) (ap (λ (x : Contents). x.pieces) it.contents);
}

pub returns-in_err-delete_references : goal.returns-in_err-delete_references
returns-in_err-delete_references g c = record {
  frame =
      let a = state g.S.Store c.args.tx.now.conn.now in
      let b = state g.S.Store c.delete.new.tx.conn.now in
      let d = state g.S.Store c.delete_references.new.tx.conn.now in
      record {
        same_reference = c.delete_references.ensures.frame.same_reference ∙ c.delete.ensures.frame.same_reference;
        failed =
            λ clean. err_kept a b d _ c.from_residual-in_err-delete_references.result c.in_ok-delete.ensures.done
            c.delete_references.ensures.frame.survives (c.in_err-delete_references.ensures.frame.failed clean) clean;
        survives = survives_both a b d c.delete.ensures.frame.survives c.delete_references.ensures.frame.survives;
      };
  done =
      λ clean. none_done c.from_residual-in_err-delete_references.result _ _
      c.from_residual-in_err-delete_references.ensures.1;
  numbers =
      λ clean. none_done c.from_residual-in_err-delete_references.result _ _
      c.from_residual-in_err-delete_references.ensures.1;
  cause = λ clean.
      let a = state g.S.Store c.args.tx.now.conn.now in
      let b = state g.S.Store c.delete.new.tx.conn.now in
      let d = state g.S.Store c.delete_references.new.tx.conn.now in
      let late : HasCleanDisk b = omega (arith, c.delete_references.ensures.frame.survives.clean, clean) in
      passed_on c.from_residual-in_err-delete_references.result _ _ c.from_residual-in_err-delete_references.ensures.1
      (next_reason NoRow NoRow a b d _ (c.in_ok-delete.ensures.done late) c.delete.ensures.frame.survives
      (none_put NoRow a.now b.now (c.in_ok-delete.ensures.numbers late)) _
      (c.in_err-delete_references.ensures.cause clean));
}

-- one that the outline hasn't has nothing else
pub returns-in_default : goal.returns-in_default
returns-in_default g c = record {
  frame =
      record {
        same_reference = c.delete.ensures.frame.same_reference;
        failed = λ clean. tt;
        survives = c.delete.ensures.frame.survives;
      };
  done = λ clean.
      let a = state g.S.Store c.args.tx.now.conn.now in
      let b = state g.S.Store c.delete.new.tx.conn.now in
      let it = c.in_ok-delete.ensures.done clean in
      let early : HasCleanDisk a = omega (arith, c.delete.ensures.frame.survives.clean, clean) in
      let path = c.args.path.now in
      changes_at a b _ (without_object path)
      (ap (λ p. record (contents_of a.now) {
        objects =
            finite.retain_keys (contents_of a.now).objects (λ k. not (same k p));
      }) c.as_str-base.ensures.value
      ∙ single_removed c.args.outline.now (contents_of a.now) path (c.requires.tables early it.was_open).1
      (sym c.in_default.ensures)) it;
  numbers = c.in_ok-delete.ensures.numbers;
  cause = λ clean. tt;
}

pub returns-in_err-delete_outputs : goal.returns-in_err-delete_outputs
returns-in_err-delete_outputs g c = record {
  frame =
      let a = state g.S.Store c.args.tx.now.conn.now in
      let b = state g.S.Store c.delete.new.tx.conn.now in
      let d = state g.S.Store c.delete_references.new.tx.conn.now in
      let e = state g.S.Store c.delete_outputs.new.tx.conn.now in
      record {
        same_reference =
            c.delete_outputs.ensures.frame.same_reference ∙ c.delete_references.ensures.frame.same_reference
            ∙ c.delete.ensures.frame.same_reference;
        failed =
            λ clean. err_kept a d e _ c.from_residual-in_err-delete_outputs.result
            (steps_both a b d _ _ c.in_ok-delete.ensures.done c.delete_references.ensures.frame.survives
            c.in_ok-delete_references.ensures.done) c.delete_outputs.ensures.frame.survives
            (c.in_err-delete_outputs.ensures.frame.failed clean) clean;
        survives =
            survives_both a d e (survives_both a b d c.delete.ensures.frame.survives
            c.delete_references.ensures.frame.survives) c.delete_outputs.ensures.frame.survives;
      };
  done =
      λ clean. none_done c.from_residual-in_err-delete_outputs.result _ _
      c.from_residual-in_err-delete_outputs.ensures.1;
  numbers =
      λ clean. none_done c.from_residual-in_err-delete_outputs.result _ _
      c.from_residual-in_err-delete_outputs.ensures.1;
  cause = λ clean.
      let a = state g.S.Store c.args.tx.now.conn.now in
      let b = state g.S.Store c.delete.new.tx.conn.now in
      let d = state g.S.Store c.delete_references.new.tx.conn.now in
      let e = state g.S.Store c.delete_outputs.new.tx.conn.now in
      let late : HasCleanDisk d = omega (arith, c.delete_outputs.ensures.frame.survives.clean, clean) in
      let early : HasCleanDisk b = omega (arith, c.delete_references.ensures.frame.survives.clean, late) in
      let on =
      numbers_on_then 0 0 a.now b.now d.now (c.in_ok-delete.ensures.done early).schema
      (c.in_ok-delete.ensures.numbers early) (c.in_ok-delete_references.ensures.numbers late) in
      passed_on c.from_residual-in_err-delete_outputs.result _ _ c.from_residual-in_err-delete_outputs.ensures.1
      (next_reason NoRow NoRow a d e _
      (steps_both a b d _ _ c.in_ok-delete.ensures.done c.delete_references.ensures.frame.survives
      c.in_ok-delete_references.ensures.done late)
      (survives_both a b d c.delete.ensures.frame.survives c.delete_references.ensures.frame.survives)
      (none_put NoRow a.now d.now on) _ (c.in_err-delete_outputs.ensures.cause clean));
}

pub returns : goal.returns
returns g c = record {
  frame =
      let a = state g.S.Store c.args.tx.now.conn.now in
      let b = state g.S.Store c.delete.new.tx.conn.now in
      let d = state g.S.Store c.delete_references.new.tx.conn.now in
      let e = state g.S.Store c.delete_outputs.new.tx.conn.now in
      let f = state g.S.Store c.delete_pieces.new.tx.conn.now in
      record {
        same_reference =
            c.delete_pieces.ensures.frame.same_reference ∙ c.delete_outputs.ensures.frame.same_reference
            ∙ c.delete_references.ensures.frame.same_reference ∙ c.delete.ensures.frame.same_reference;
        failed =
            failed_next a e f _ (λ x. x)
            (steps_both a d e _ _ (steps_both a b d _ _ c.in_ok-delete.ensures.done
            c.delete_references.ensures.frame.survives c.in_ok-delete_references.ensures.done)
            c.delete_outputs.ensures.frame.survives c.in_ok-delete_outputs.ensures.done)
            c.delete_pieces.ensures.frame.survives c.delete_pieces.result c.delete_pieces.ensures.frame.failed;
        survives =
            survives_both a e f (survives_both a d e
            (survives_both a b d c.delete.ensures.frame.survives c.delete_references.ensures.frame.survives)
            c.delete_outputs.ensures.frame.survives) c.delete_pieces.ensures.frame.survives;
      };
  done =
      let a = state g.S.Store c.args.tx.now.conn.now in
      let b = state g.S.Store c.delete.new.tx.conn.now in
      let d = state g.S.Store c.delete_references.new.tx.conn.now in
      let e = state g.S.Store c.delete_outputs.new.tx.conn.now in
      let f = state g.S.Store c.delete_pieces.new.tx.conn.now in
      done_both a e f _ _ (steps_both a d e _ _
      (steps_both a b d _ _ c.in_ok-delete.ensures.done c.delete_references.ensures.frame.survives
      c.in_ok-delete_references.ensures.done) c.delete_outputs.ensures.frame.survives
      c.in_ok-delete_outputs.ensures.done) c.delete_pieces.ensures.frame.survives c.delete_pieces.result _
      (λ x. ap (λ p. without_object p x) c.as_str-base.ensures.value) c.delete_pieces.ensures.done;
  numbers = λ clean.
      let a = state g.S.Store c.args.tx.now.conn.now in
      let b = state g.S.Store c.delete.new.tx.conn.now in
      let d = state g.S.Store c.delete_references.new.tx.conn.now in
      let e = state g.S.Store c.delete_outputs.new.tx.conn.now in
      let f = state g.S.Store c.delete_pieces.new.tx.conn.now in
      let late : HasCleanDisk e = omega (arith, c.delete_pieces.ensures.frame.survives.clean, clean) in
      let early : HasCleanDisk d = omega (arith, c.delete_outputs.ensures.frame.survives.clean, late) in
      let first : HasCleanDisk b = omega (arith, c.delete_references.ensures.frame.survives.clean, early) in
      let deleted = c.in_ok-delete.ensures.done first in
      let two =
      steps_both a b d _ _ c.in_ok-delete.ensures.done c.delete_references.ensures.frame.survives
      c.in_ok-delete_references.ensures.done early in
      on_ok c.delete_pieces.result _ _
      (numbers_on_then 0 0 a.now e.now f.now ((c.in_ok-delete_outputs.ensures.done late).schema ∙ two.schema)
      (numbers_on_then 0 0 a.now d.now e.now two.schema
      (numbers_on_then 0 0 a.now b.now d.now deleted.schema (c.in_ok-delete.ensures.numbers first)
      (c.in_ok-delete_references.ensures.numbers early)) (c.in_ok-delete_outputs.ensures.numbers late)))
      (c.delete_pieces.ensures.numbers clean);
  cause = λ clean.
      let a = state g.S.Store c.args.tx.now.conn.now in
      let b = state g.S.Store c.delete.new.tx.conn.now in
      let d = state g.S.Store c.delete_references.new.tx.conn.now in
      let e = state g.S.Store c.delete_outputs.new.tx.conn.now in
      let f = state g.S.Store c.delete_pieces.new.tx.conn.now in
      let late : HasCleanDisk e = omega (arith, c.delete_pieces.ensures.frame.survives.clean, clean) in
      let early : HasCleanDisk d = omega (arith, c.delete_outputs.ensures.frame.survives.clean, late) in
      let first : HasCleanDisk b = omega (arith, c.delete_references.ensures.frame.survives.clean, early) in
      let deleted = c.in_ok-delete.ensures.done first in
      let two =
      steps_both a b d _ _ c.in_ok-delete.ensures.done c.delete_references.ensures.frame.survives
      c.in_ok-delete_references.ensures.done early in
      let on =
      numbers_on_then 0 0 a.now d.now e.now two.schema
      (numbers_on_then 0 0 a.now b.now d.now deleted.schema (c.in_ok-delete.ensures.numbers first)
      (c.in_ok-delete_references.ensures.numbers early)) (c.in_ok-delete_outputs.ensures.numbers late) in
      as_reason _ _ (next_reason NoRow NoRow a e f _
      (steps_both a d e _ _ (steps_both a b d _ _ c.in_ok-delete.ensures.done c.delete_references.ensures.frame.survives
      c.in_ok-delete_references.ensures.done) c.delete_outputs.ensures.frame.survives
      c.in_ok-delete_outputs.ensures.done late)
      (survives_both a d e (survives_both a b d c.delete.ensures.frame.survives
      c.delete_references.ensures.frame.survives) c.delete_outputs.ensures.frame.survives)
      (none_put NoRow a.now e.now on)) c.delete_pieces.result (c.delete_pieces.ensures.cause clean);
}

pub returns-in_err-delete : goal.returns-in_err-delete
returns-in_err-delete g c = record {
  frame =
      record {
        same_reference = c.delete.ensures.frame.same_reference;
        failed = λ clean. always_failed c.from_residual.result _ (c.in_err-delete.ensures.frame.failed clean);
        survives = c.delete.ensures.frame.survives;
      };
  done = λ clean. none_done c.from_residual.result _ _ c.from_residual.ensures.1;
  numbers = λ clean. none_done c.from_residual.result _ _ c.from_residual.ensures.1;
  cause = λ clean.
      passed_on c.from_residual.result _ _ c.from_residual.ensures.1
      (removal_reason _ (state g.S.Store c.args.tx.now.conn.now) (state g.S.Store c.delete.new.tx.conn.now) _
      (c.in_err-delete.ensures.cause clean));
}
