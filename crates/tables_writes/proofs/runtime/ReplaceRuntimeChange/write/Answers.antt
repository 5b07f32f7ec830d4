use Rattle.std.proofs.Common.{map, ap, arith, ◌∙◌}
use Rattle.sqlite.specs.State.{HasCleanDisk}
use Rattle.sqlite.specs.Held.{state}
use Rattle.tables_sql.specs.Contents.{Contents}
use Rattle.tables_outline.specs.Maps.{labelled_bytes}
use Rattle.tables_sql.proofs.Transactions.{done_both, failed_next}
use Rattle.tables_sql.proofs.Steps.{under_after}
use Rattle.tables_writes.proofs.PutPairs.{all_put}
use Rattle.tables_sql.proofs.TestFailures.{passed_on, survives_both}
use Rattle.tables_rows.proofs.Reasons.{as_reason, next_reason, none_put, removal_reason}
use Rattle.tables_writes.proofs.runtime.ReplaceRuntimeChange.write.Goals as goal

pub put_runtime-requires : goal.put_runtime-requires
put_runtime-requires g c = record {
  under_way =
      λ clean. under_after (state g.S.Store c.args.tx.now.conn.now) (state g.S.Store c.delete.new.tx.conn.now) _
      (c.in_ok-delete.ensures.done clean);
  is_open = λ clean. (c.in_ok-delete.ensures.done clean).is_open;
  fits = λ clean. ap (λ (x : Contents). x.runtime) (c.in_ok-delete.ensures.done clean).contents;
}

pub returns-clause-frame : goal.returns-clause-frame
returns-clause-frame g c =
    record {
      same_reference = c.put_runtime.ensures.frame.same_reference ∙ c.delete.ensures.frame.same_reference;
      failed =
          failed_next (state g.S.Store c.args.tx.now.conn.now) (state g.S.Store c.delete.new.tx.conn.now)
          (state g.S.Store c.put_runtime.new.tx.conn.now) _ (λ x. x) c.in_ok-delete.ensures.done
          c.put_runtime.ensures.frame.survives c.put_runtime.result c.put_runtime.ensures.frame.failed;
      survives =
          survives_both (state g.S.Store c.args.tx.now.conn.now) (state g.S.Store c.delete.new.tx.conn.now)
          (state g.S.Store c.put_runtime.new.tx.conn.now) c.delete.ensures.frame.survives
          c.put_runtime.ensures.frame.survives;
    }

pub returns-clause-done : goal.returns-clause-done
returns-clause-done g c =
    done_both (state g.S.Store c.args.tx.now.conn.now) (state g.S.Store c.delete.new.tx.conn.now)
    (state g.S.Store c.put_runtime.new.tx.conn.now) _ _ c.in_ok-delete.ensures.done
    c.put_runtime.ensures.frame.survives
    c.put_runtime.result _ (λ (x : Contents). ap (λ m. record x { runtime = m })
    (all_put (map labelled_bytes c.args.self.now.roots.now.keys))) c.put_runtime.ensures.done

pub returns-in_err-delete-clause-cause : goal.returns-in_err-delete-clause-cause
returns-in_err-delete-clause-cause g c clean =
    passed_on c.from_residual.result _ _ c.from_residual.ensures.1
    (removal_reason _ (state g.S.Store c.args.tx.now.conn.now) (state g.S.Store c.delete.new.tx.conn.now) _
    (c.in_err-delete.ensures.cause clean))

pub returns-clause-cause : goal.returns-clause-cause
returns-clause-cause g c clean =
    let a = state g.S.Store c.args.tx.now.conn.now in
    let b = state g.S.Store c.delete.new.tx.conn.now in
    let d = state g.S.Store c.put_runtime.new.tx.conn.now in
    let late : HasCleanDisk b = omega (arith, c.put_runtime.ensures.frame.survives.clean, clean) in
    as_reason _ _ (next_reason _ _ a b d _ (c.in_ok-delete.ensures.done late) c.delete.ensures.frame.survives
    (none_put _ a.now b.now (c.in_ok-delete.ensures.numbers late))) c.put_runtime.result
    (c.put_runtime.ensures.cause clean)
