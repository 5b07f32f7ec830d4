use Rattle.std.proofs.Common.{refl, sym, subst, ◌∙◌}
use Rattle.sqlite.specs.State.{HasCleanDisk}
use Rattle.sqlite.specs.Held.{state}
use Rattle.tables_sql.proofs.Transactions.{done_both, failed_next}
use Rattle.tables_sql.proofs.Steps.{clean_before, under_after}
use Rattle.tables_sql.specs.Calls.{Changes}
use Rattle.tables_writes.specs.Rewritten.{Covers, without_objects}
use Rattle.tables_sql.proofs.TestFailures.{passed_on, survives_both}
use Rattle.tables_writes.proofs.Transactions.{pieces_exist}
use Rattle.tables_rows.specs.Reasons.{NoRow}
use Rattle.tables_rows.proofs.Reasons.{as_reason, left_unchanged, next_reason, removal_reason}
use Rattle.tables_rows.proofs.Unchanged.{changes_nothing}
use Rattle.tables_writes.proofs.removal.RemoveObjectsChange.write.Goals as goal

pub delete_objects-requires : goal.delete_objects-requires
delete_objects-requires g c =
    let a = state g.S.Store c.args.tx.now.conn.now in
    let b = state g.S.Store c.get_within.new.tx.conn.now in
    let read : HasCleanDisk b → Changes a b (λ x. x) =
    λ clean. changes_nothing a b (c.requires.under_way (clean_before a b _ c.get_within.ensures.frame.survives clean))
    (c.in_ok-_none.ensures.reads clean).0 in
    record {
      under_way = λ clean. under_after a b _ (read clean);
      is_open = λ clean. (read clean).is_open;
      exists = λ clean.
          pieces_exist a b _ read c.get_within.ensures.frame.survives
          (λ early is_open. (c.requires.whole early is_open).pieces) clean;
      fits = λ clean.
          let it = read clean in
          let early : HasCleanDisk a = clean_before a b _ c.get_within.ensures.frame.survives clean in
          subst (Covers c.args.self.now.outline.now) (sym it.contents) (c.requires.fits early it.was_open);
    }

pub returns-clause-frame : goal.returns-clause-frame
returns-clause-frame g c =
    let a = state g.S.Store c.args.tx.now.conn.now in
    let b = state g.S.Store c.get_within.new.tx.conn.now in
    let d = state g.S.Store c.delete_objects.new.tx.conn.now in
    let read : HasCleanDisk b → Changes a b (λ x. x) =
    λ clean. changes_nothing a b (c.requires.under_way (clean_before a b _ c.get_within.ensures.frame.survives clean))
    (c.in_ok-_none.ensures.reads clean).0 in
    record {
      same_reference = c.delete_objects.ensures.frame.same_reference ∙ c.get_within.ensures.frame.same_reference;
      failed =
          failed_next a b d (λ x. x) (λ x. x) read c.delete_objects.ensures.frame.survives c.delete_objects.result
          c.delete_objects.ensures.frame.failed;
      survives =
          survives_both a b d c.get_within.ensures.frame.survives c.delete_objects.ensures.frame.survives;
    }

pub returns-clause-done : goal.returns-clause-done
returns-clause-done g c =
    let a = state g.S.Store c.args.tx.now.conn.now in
    let b = state g.S.Store c.get_within.new.tx.conn.now in
    let d = state g.S.Store c.delete_objects.new.tx.conn.now in
    let read : HasCleanDisk b → Changes a b (λ x. x) =
    λ clean. changes_nothing a b (c.requires.under_way (clean_before a b _ c.get_within.ensures.frame.survives clean))
    (c.in_ok-_none.ensures.reads clean).0 in
    done_both a b d (λ x. x) (without_objects c.args.self.now.paths.now) read c.delete_objects.ensures.frame.survives
    c.delete_objects.result (without_objects c.args.self.now.paths.now) (λ x. refl) c.delete_objects.ensures.done

pub returns-in_err-_none-clause-cause : goal.returns-in_err-_none-clause-cause
returns-in_err-_none-clause-cause g c clean =
    passed_on c.from_residual.result _ _ c.from_residual.ensures.1
    (removal_reason _ (state g.S.Store c.args.tx.now.conn.now) (state g.S.Store c.get_within.new.tx.conn.now) _
    (c.in_err-_none.ensures.cause clean))

pub returns-clause-cause : goal.returns-clause-cause
returns-clause-cause g c clean =
    let a = state g.S.Store c.args.tx.now.conn.now in
    let b = state g.S.Store c.get_within.new.tx.conn.now in
    let d = state g.S.Store c.delete_objects.new.tx.conn.now in
    let late : HasCleanDisk b = clean_before b d _ c.delete_objects.ensures.frame.survives clean in
    let same = (c.in_ok-_none.ensures.reads late).0 in
    let read : Changes a b (λ x. x) =
    changes_nothing a b (c.requires.under_way (clean_before a b _ c.get_within.ensures.frame.survives late)) same in
    as_reason _ _ (next_reason NoRow NoRow a b d _ read c.get_within.ensures.frame.survives
    (left_unchanged NoRow a.now b.now same.0.now_is)) c.delete_objects.result (c.delete_objects.ensures.cause clean)
