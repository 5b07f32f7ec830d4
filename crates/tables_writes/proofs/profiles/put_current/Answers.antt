use Rattle.std.proofs.Common.{arith, ℕ, List, ap, ◌∙◌}
use Rattle.std.specs.Prelude.{pos}
use Rattle.std.specs.FinMap as finite
use Rattle.sqlite.specs.State.{HasCleanDisk}
use Rattle.sqlite.specs.Held.{state}
use Rattle.tables_sql.specs.Contents.{Contents}
use Rattle.tables_outline.proofs.Orders.{pair_total, pair_antisymmetric}
use Rattle.tables_outline.proofs.Puts.{get-removed, put_over}
use Rattle.tables_writes.proofs.Parts.{without_pair}
use Rattle.tables_sql.proofs.Transactions.{done_both, failed_next}
use Rattle.tables_sql.proofs.Scans.{on_ok}
use Rattle.tables_sql.proofs.Steps.{under_after}
use Rattle.tables_sql.proofs.TestFailures.{passed_on, survives_both}
use Rattle.tables_writes.specs.RowsPut.{ProfileRow}
use Rattle.tables_rows.proofs.Reasons.{all_among, as_reason, is_none, next_reason, none_put, numbers_both, put_reason}
use Rattle.tables_rows.proofs.Reasons.{removal_reason}
use Rattle.tables_rows.proofs.Failed.{none_done, always_failed}
use Rattle.tables_writes.proofs.profiles.put_current.Goals as goal

pub insert-requires-clause-under : goal.insert-requires-clause-under
insert-requires-clause-under g c clean =
    under_after (state g.S.Store c.args.tx.now.conn.now) (state g.S.Store c.delete.new.tx.conn.now) _
    (c.in_ok-delete.ensures.done clean)

pub returns : goal.returns
returns g c = record {
  frame =
      record {
        same_reference = c.insert.ensures.frame.same_reference ∙ c.delete.ensures.frame.same_reference;
        failed =
            failed_next (state g.S.Store c.args.tx.now.conn.now) (state g.S.Store c.delete.new.tx.conn.now)
            (state g.S.Store c.insert.new.tx.conn.now) _ (λ x. x) c.in_ok-delete.ensures.done
            c.insert.ensures.frame.survives c.insert.result c.insert.ensures.frame.failed;
        survives =
            survives_both (state g.S.Store c.args.tx.now.conn.now) (state g.S.Store c.delete.new.tx.conn.now)
            (state g.S.Store c.insert.new.tx.conn.now) c.delete.ensures.frame.survives c.insert.ensures.frame.survives;
      };
  done =
      let owned : List ℕ × List ℕ = (c.args.owner.now, c.args.name.now) in
      done_both (state g.S.Store c.args.tx.now.conn.now) (state g.S.Store c.delete.new.tx.conn.now)
      (state g.S.Store c.insert.new.tx.conn.now) _ _ c.in_ok-delete.ensures.done c.insert.ensures.frame.survives
      c.insert.result _ (λ (x : Contents). ap (λ m. record x { profiles = m })
      (ap (λ m. finite.insert m owned (pos c.args.current)) (without_pair x.profiles owned.0 owned.1)
      ∙ put_over pair_total pair_antisymmetric x.profiles owned (pos c.args.current))) c.insert.ensures.done;
  numbers = λ clean.
      let a = state g.S.Store c.args.tx.now.conn.now in
      let b = state g.S.Store c.delete.new.tx.conn.now in
      let n = state g.S.Store c.insert.new.tx.conn.now in
      let early : HasCleanDisk b = omega (arith, c.insert.ensures.frame.survives.clean, clean) in
      let row = ProfileRow (c.args.owner.now, c.args.name.now) c.args.current in
      on_ok c.insert.result _ _ (numbers_both row row a.now b.now n.now
      (none_put row a.now b.now (c.in_ok-delete.ensures.numbers early))
      (c.in_ok-delete.ensures.done early).schema) (c.insert.ensures.numbers clean);
  cause = λ clean.
      let owned : List ℕ × List ℕ = (c.args.owner.now, c.args.name.now) in
      let a = state g.S.Store c.args.tx.now.conn.now in
      let b = state g.S.Store c.delete.new.tx.conn.now in
      let n = state g.S.Store c.insert.new.tx.conn.now in
      let early : HasCleanDisk b = omega (arith, c.insert.ensures.frame.survives.clean, clean) in
      let done = c.in_ok-delete.ensures.done early in
      let row = ProfileRow (c.args.owner.now, c.args.name.now) c.args.current in
      as_reason _ _ (λ e h. next_reason row row a b n _ done c.delete.ensures.frame.survives
      (none_put row a.now b.now (c.in_ok-delete.ensures.numbers early)) e
      (put_reason row b n _ _ _ (all_among row)
      (is_none _ (ap (λ (x : Contents). finite.get x.profiles owned) done.contents
      ∙ ap (λ m. finite.get m owned) (without_pair _ owned.0 owned.1)
      ∙ get-removed pair_total pair_antisymmetric _ owned)) e h)) c.insert.result
      (c.insert.ensures.cause clean);
}

pub returns-in_err-delete : goal.returns-in_err-delete
returns-in_err-delete g c = record {
  frame =
      record {
        same_reference = c.delete.ensures.frame.same_reference;
        failed = λ clean. always_failed c.from_residual.result _ (c.in_err-delete.ensures.frame.failed clean);
        survives = c.delete.ensures.frame.survives;
      };
  done = λ clean. none_done c.from_residual.result _ _ c.from_residual.ensures.1;
  numbers = λ clean. none_done c.from_residual.result _ _ c.from_residual.ensures.1;
  cause = λ clean.
      passed_on c.from_residual.result _ _ c.from_residual.ensures.1
      (removal_reason _ (state g.S.Store c.args.tx.now.conn.now) (state g.S.Store c.delete.new.tx.conn.now) _
      (c.in_err-delete.ensures.cause clean));
}
