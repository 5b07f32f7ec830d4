use Rattle.std.proofs.Common.{ap, ◌∙◌}
use Rattle.sqlite.specs.Held.{state}
use Rattle.tables_sql.specs.Contents.{Contents}
use Rattle.tables_outline.proofs.Orders.{pair_total, pair_antisymmetric}
use Rattle.tables_outline.proofs.Puts.{retained}
use Rattle.tables_rows.proofs.Reasons.{as_reason, removal_reason}
use Rattle.tables_writes.proofs.Parts.{without_pair}
use Rattle.tables_writes.proofs.Transactions.{done_as}
use Rattle.tables_writes.proofs.user_roots.DropUserRootChange.write.Goals as goal

pub returns-clause-done : goal.returns-clause-done
returns-clause-done g c clean =
    let owner = c.args.self.now.owner.now in
    let name = c.args.self.now.name.now in
    done_as (state g.S.Store c.args.tx.now.conn.now) (state g.S.Store c.delete.new.tx.conn.now) _ _
    (λ (x : Contents). ap (λ m. record x { user_roots = m })
    (without_pair x.user_roots owner name ∙ retained pair_total pair_antisymmetric x.user_roots (owner, name)))
    c.delete.result (c.delete.ensures.done clean)

pub returns-clause-cause : goal.returns-clause-cause
returns-clause-cause g c clean =
    as_reason _ _ (removal_reason _ (state g.S.Store c.args.tx.now.conn.now) (state g.S.Store c.delete.new.tx.conn.now))
    c.delete.result (c.delete.ensures.cause clean)
