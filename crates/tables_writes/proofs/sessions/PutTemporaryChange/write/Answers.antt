use Rattle.std.proofs.Common.{arith, ap, ◌∙◌}
use Rattle.std.specs.Prelude.{pos}
use Rattle.std.specs.FinMap as finite
use Rattle.sqlite.specs.State.{HasCleanDisk}
use Rattle.sqlite.specs.Held.{state}
use Rattle.tables_sql.specs.Contents.{Contents, SessionPath}
use Rattle.tables_sql.proofs.Orders.{session_path_total, session_path_antisymmetric}
use Rattle.tables_sql.proofs.Transactions.{done_both, failed_next}
use Rattle.tables_sql.proofs.Steps.{under_after}
use Rattle.tables_outline.proofs.Puts.{get-removed, put_over}
use Rattle.tables_writes.proofs.SessionRows.{without_one}
use Rattle.tables_sql.proofs.TestFailures.{passed_on, survives_both}
use Rattle.tables_writes.specs.RowsPut.{TemporaryRow}
use Rattle.tables_writes.specs.Temporary.{keeps}
use Rattle.tables_rows.proofs.Reasons.{all_among, as_reason, is_none, next_reason, none_put, put_reason, removal_reason}
use Rattle.tables_writes.proofs.Transactions.{temp_roots_exist}
use Rattle.tables_writes.proofs.sessions.PutTemporaryChange.write.Goals as goal

pub delete-requires-clause-exists : goal.delete-requires-clause-exists
delete-requires-clause-exists g c clean is_open = (c.requires.whole clean is_open).temp_roots

pub insert-requires-clause-exists : goal.insert-requires-clause-exists
insert-requires-clause-exists g c clean is_open =
    temp_roots_exist (state g.S.Store c.args.tx.now.conn.now) (state g.S.Store c.delete.new.tx.conn.now) _
    c.in_ok-delete.ensures.done c.delete.ensures.frame.survives (λ early up. (c.requires.whole early up).temp_roots)
    clean

pub insert-requires-clause-under : goal.insert-requires-clause-under
insert-requires-clause-under g c clean =
    under_after (state g.S.Store c.args.tx.now.conn.now) (state g.S.Store c.delete.new.tx.conn.now) _
    (c.in_ok-delete.ensures.done clean)

pub returns-clause-frame : goal.returns-clause-frame
returns-clause-frame g c =
    record {
      same_reference = c.insert.ensures.frame.same_reference ∙ c.delete.ensures.frame.same_reference;
      failed =
          failed_next (state g.S.Store c.args.tx.now.conn.now) (state g.S.Store c.delete.new.tx.conn.now)
          (state g.S.Store c.insert.new.tx.conn.now) _ (λ x. x) c.in_ok-delete.ensures.done
          c.insert.ensures.frame.survives c.insert.result c.insert.ensures.frame.failed;
      survives =
          survives_both (state g.S.Store c.args.tx.now.conn.now) (state g.S.Store c.delete.new.tx.conn.now)
          (state g.S.Store c.insert.new.tx.conn.now) c.delete.ensures.frame.survives c.insert.ensures.frame.survives;
    }

pub returns-clause-done : goal.returns-clause-done
returns-clause-done g c =
    let it = c.args.self.now in
    let key : SessionPath = (it.owner.now, pos it.session, it.target.now) in
    done_both (state g.S.Store c.args.tx.now.conn.now) (state g.S.Store c.delete.new.tx.conn.now)
    (state g.S.Store c.insert.new.tx.conn.now) _ _ c.in_ok-delete.ensures.done c.insert.ensures.frame.survives
    c.insert.result _ (λ (x : Contents). ap (λ m. record x { temp_roots = m })
    (ap (λ m. finite.insert m key tt) (without_one x.temp_roots key.0 key.1 key.2)
    ∙ put_over session_path_total session_path_antisymmetric x.temp_roots key tt)) c.insert.ensures.done

pub returns-in_err-delete-clause-cause : goal.returns-in_err-delete-clause-cause
returns-in_err-delete-clause-cause g c clean =
    passed_on c.from_residual.result _ _ c.from_residual.ensures.1
    (removal_reason _ (state g.S.Store c.args.tx.now.conn.now) (state g.S.Store c.delete.new.tx.conn.now) _
    (c.in_err-delete.ensures.cause clean))

pub returns-clause-cause : goal.returns-clause-cause
returns-clause-cause g c clean =
    let it = c.args.self.now in
    let key : SessionPath = (it.owner.now, pos it.session, it.target.now) in
    let a = state g.S.Store c.args.tx.now.conn.now in
    let b = state g.S.Store c.delete.new.tx.conn.now in
    let n = state g.S.Store c.insert.new.tx.conn.now in
    let early : HasCleanDisk b = omega (arith, c.insert.ensures.frame.survives.clean, clean) in
    let done = c.in_ok-delete.ensures.done early in
    let row = TemporaryRow (keeps it.owner.now it.session it.target.now) in
    as_reason _ _ (λ e h. next_reason row row a b n _ done c.delete.ensures.frame.survives
    (none_put row a.now b.now (c.in_ok-delete.ensures.numbers early)) e
    (put_reason row b n _ _ _ (all_among row)
    (is_none _ (ap (λ (x : Contents). finite.get x.temp_roots key) done.contents
    ∙ ap (λ m. finite.get m key) (without_one _ key.0 key.1 key.2)
    ∙ get-removed session_path_total session_path_antisymmetric _ key)) e h)) c.insert.result
    (c.insert.ensures.cause clean)
