use Rattle.std.proofs.Common.{ap}
use Rattle.sqlite.specs.Held.{state}
use Rattle.tables_sql.specs.Contents.{Contents}
use Rattle.tables_outline.proofs.Orders.{bytes_total, bytes_antisymmetric}
use Rattle.tables_outline.proofs.Puts.{retained}
use Rattle.tables_rows.proofs.Reasons.{as_reason, removal_reason}
use Rattle.tables_writes.proofs.Transactions.{done_as}
use Rattle.tables_writes.proofs.permanent.DropPermanentChange.write.Goals as goal

pub returns-clause-done : goal.returns-clause-done
returns-clause-done g c clean =
    done_as (state g.S.Store c.args.tx.now.conn.now) (state g.S.Store c.delete.new.tx.conn.now) _ _
    (λ (x : Contents). ap (λ m. record x { permanent = m })
    (retained bytes_total bytes_antisymmetric x.permanent c.args.self.now.name.now)) c.delete.result
    (c.delete.ensures.done clean)

pub returns-clause-cause : goal.returns-clause-cause
returns-clause-cause g c clean =
    as_reason _ _ (removal_reason _ (state g.S.Store c.args.tx.now.conn.now) (state g.S.Store c.delete.new.tx.conn.now))
    c.delete.result (c.delete.ensures.cause clean)
