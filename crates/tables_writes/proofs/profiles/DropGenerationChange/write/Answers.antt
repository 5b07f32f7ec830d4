use Rattle.sqlite.specs.Held.{state}
use Rattle.tables_rows.proofs.Reasons.{as_reason, removal_reason}
use Rattle.tables_writes.proofs.profiles.DropGenerationChange.write.Goals as goal

pub returns-clause-cause : goal.returns-clause-cause
returns-clause-cause g c clean =
    as_reason _ _ (removal_reason _ (state g.S.Store c.args.tx.now.conn.now) (state g.S.Store c.delete.new.tx.conn.now))
    c.delete.result (c.delete.ensures.cause clean)
