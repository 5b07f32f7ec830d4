use Rattle.std.proofs.Common.{ap, arith, ◌∙◌}
use Rattle.std.specs.Prelude.{pos}
use Rattle.std.specs.FinMap as finite
use Rattle.sqlite.specs.State.{HasCleanDisk}
use Rattle.sqlite.specs.Held.{state}
use Rattle.tables_sql.specs.Contents.{Contents, Triple}
use Rattle.model.specs.World.{Pair}
use Rattle.tables_sql.proofs.Orders.{triple_total, triple_antisymmetric}
use Rattle.tables_sql.proofs.Transactions.{done_both, failed_next, steps_both}
use Rattle.tables_sql.proofs.Steps.{under_after}
use Rattle.tables_sql.proofs.TestFailures.{passed_on, survives_both}
use Rattle.tables_outline.proofs.Puts.{get-removed, put_over}
use Rattle.tables_rows.specs.Reasons.{Both}
use Rattle.tables_writes.specs.RowsPut.{ProfileRow, PathRow, GenerationRows}
use Rattle.tables_writes.proofs.AddedGenerations.{without_triple}
use Rattle.tables_rows.proofs.Failing.{err_kept}
use Rattle.tables_rows.proofs.Reasons.{all_among, as_reason, first_among, is_none, left_still, more_reason, next_reason}
use Rattle.tables_rows.proofs.Reasons.{put_reason, removal_reason, second_left}
use Rattle.tables_writes.proofs.profiles.PutGenerationChange.write.Goals as goal

pub delete-requires-clause-under : goal.delete-requires-clause-under
delete-requires-clause-under g c clean =
    under_after (state g.S.Store c.args.tx.now.conn.now) (state g.S.Store c.put_current.new.tx.conn.now) _
    (c.in_ok-put_current.ensures.done clean)

pub insert-requires-clause-under : goal.insert-requires-clause-under
insert-requires-clause-under g c clean =
    let a = state g.S.Store c.args.tx.now.conn.now in
    let b = state g.S.Store c.put_current.new.tx.conn.now in
    let d = state g.S.Store c.delete.new.tx.conn.now in
    under_after a d _ (steps_both a b d _ _ c.in_ok-put_current.ensures.done c.delete.ensures.frame.survives
    c.in_ok-delete.ensures.done clean)

pub returns-in_err-put_current-clause-cause : goal.returns-in_err-put_current-clause-cause
returns-in_err-put_current-clause-cause g c clean =
    let it = c.args.self.now in
    passed_on c.from_residual.result _ _ c.from_residual.ensures.1
    (more_reason (ProfileRow (it.owner.now, it.name.now) it.current)
    (GenerationRows (it.owner.now, it.name.now) it.number it.target.now it.current)
    (first_among (ProfileRow (it.owner.now, it.name.now) it.current)
    (PathRow (it.owner.now, it.name.now) it.number it.target.now)) (state g.S.Store c.args.tx.now.conn.now)
    (state g.S.Store c.put_current.new.tx.conn.now) _ (c.in_err-put_current.ensures.cause clean))

pub returns-in_err-delete-clause-frame : goal.returns-in_err-delete-clause-frame
returns-in_err-delete-clause-frame g c =
    record {
      same_reference = c.delete.ensures.frame.same_reference ∙ c.put_current.ensures.frame.same_reference;
      failed =
          λ clean. err_kept (state g.S.Store c.args.tx.now.conn.now) (state g.S.Store c.put_current.new.tx.conn.now)
          (state g.S.Store c.delete.new.tx.conn.now) _ c.from_residual-in_err-delete.result
          c.in_ok-put_current.ensures.done c.delete.ensures.frame.survives (c.in_err-delete.ensures.frame.failed clean)
          clean;
      survives =
          survives_both (state g.S.Store c.args.tx.now.conn.now) (state g.S.Store c.put_current.new.tx.conn.now)
          (state g.S.Store c.delete.new.tx.conn.now) c.put_current.ensures.frame.survives
          c.delete.ensures.frame.survives;
    }

pub returns-in_err-delete-clause-cause : goal.returns-in_err-delete-clause-cause
returns-in_err-delete-clause-cause g c clean =
    let it = c.args.self.now in
    let owned : Pair = (it.owner.now, it.name.now) in
    let a = state g.S.Store c.args.tx.now.conn.now in
    let b = state g.S.Store c.put_current.new.tx.conn.now in
    let d = state g.S.Store c.delete.new.tx.conn.now in
    let early : HasCleanDisk b = omega (arith, c.delete.ensures.frame.survives.clean, clean) in
    passed_on c.from_residual-in_err-delete.result _ _ c.from_residual-in_err-delete.ensures.1
    (next_reason _ _ a b d _ (c.in_ok-put_current.ensures.done early) c.put_current.ensures.frame.survives
    (second_left (ProfileRow owned it.current) (PathRow owned it.number it.target.now) a.now b.now
    (c.in_ok-put_current.ensures.numbers early)) _
    (removal_reason (PathRow owned it.number it.target.now) b d _ (c.in_err-delete.ensures.cause clean)))

pub returns-clause-frame : goal.returns-clause-frame
returns-clause-frame g c =
    let a = state g.S.Store c.args.tx.now.conn.now in
    let b = state g.S.Store c.put_current.new.tx.conn.now in
    let d = state g.S.Store c.delete.new.tx.conn.now in
    record {
      same_reference =
          c.insert.ensures.frame.same_reference ∙ c.delete.ensures.frame.same_reference
          ∙ c.put_current.ensures.frame.same_reference;
      failed =
          failed_next a d (state g.S.Store c.insert.new.tx.conn.now) _ (λ x. x)
          (steps_both a b d _ _ c.in_ok-put_current.ensures.done c.delete.ensures.frame.survives
          c.in_ok-delete.ensures.done) c.insert.ensures.frame.survives c.insert.result c.insert.ensures.frame.failed;
      survives =
          survives_both a d (state g.S.Store c.insert.new.tx.conn.now)
          (survives_both a b d c.put_current.ensures.frame.survives c.delete.ensures.frame.survives)
          c.insert.ensures.frame.survives;
    }

pub returns-clause-done : goal.returns-clause-done
returns-clause-done g c =
    let it = c.args.self.now in
    let key : Triple = (it.owner.now, it.name.now, pos it.number) in
    let a = state g.S.Store c.args.tx.now.conn.now in
    let b = state g.S.Store c.put_current.new.tx.conn.now in
    let d = state g.S.Store c.delete.new.tx.conn.now in
    done_both a d (state g.S.Store c.insert.new.tx.conn.now) _ _
    (steps_both a b d _ _ c.in_ok-put_current.ensures.done c.delete.ensures.frame.survives
    c.in_ok-delete.ensures.done) c.insert.ensures.frame.survives
    c.insert.result _ (λ (x : Contents). ap
    (λ m. record x {
      profiles = finite.insert x.profiles (it.owner.now, it.name.now) (pos it.current);
      generations = m;
    })
    (ap (λ m. finite.insert m key it.target.now) (without_triple x.generations key.0 key.1 key.2)
    ∙ put_over triple_total triple_antisymmetric x.generations key it.target.now)) c.insert.ensures.done

pub returns-clause-cause : goal.returns-clause-cause
returns-clause-cause g c clean =
    let it = c.args.self.now in
    let key : Triple = (it.owner.now, it.name.now, pos it.number) in
    let a = state g.S.Store c.args.tx.now.conn.now in
    let b = state g.S.Store c.put_current.new.tx.conn.now in
    let d = state g.S.Store c.delete.new.tx.conn.now in
    let n = state g.S.Store c.insert.new.tx.conn.now in
    let early : HasCleanDisk d = omega (arith, c.insert.ensures.frame.survives.clean, clean) in
    let done =
    steps_both a b d _ _ c.in_ok-put_current.ensures.done c.delete.ensures.frame.survives
    c.in_ok-delete.ensures.done early in
    let first : HasCleanDisk b = omega (arith, c.delete.ensures.frame.survives.clean, early) in
    let owned : Pair = (it.owner.now, it.name.now) in
    let profile = ProfileRow owned it.current in
    let path = PathRow owned it.number it.target.now in
    let left =
    left_still (Both profile path) path a.now b.now d.now
    (second_left profile path a.now b.now (c.in_ok-put_current.ensures.numbers first))
    (c.in_ok-put_current.ensures.done first).schema (c.in_ok-delete.ensures.numbers early) in
    as_reason _ _ (λ e h. next_reason (Both profile path) path a d n _ done
    (survives_both a b d c.put_current.ensures.frame.survives c.delete.ensures.frame.survives) left e
    (put_reason path d n _ _ _ (all_among path)
    (is_none _ (ap (λ (x : Contents). finite.get x.generations key) done.contents
    ∙ ap (λ m. finite.get m key) (without_triple _ key.0 key.1 key.2)
    ∙ get-removed triple_total triple_antisymmetric _ key)) e h)) c.insert.result (c.insert.ensures.cause clean)
