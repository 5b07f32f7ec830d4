use Rattle.sqlite.specs.Held.{state}
use Rattle.tables_rows.proofs.Reasons.{as_reason, removal_reason}
use Rattle.tables_writes.proofs.sessions.EndSessionChange.write.Goals as goal

pub delete-requires-clause-exists : goal.delete-requires-clause-exists
delete-requires-clause-exists g c clean is_open = (c.requires.whole clean is_open).temp_roots

pub returns-clause-cause : goal.returns-clause-cause
returns-clause-cause g c clean =
    as_reason _ _ (removal_reason _ (state g.S.Store c.args.tx.now.conn.now) (state g.S.Store c.delete.new.tx.conn.now))
    c.delete.result (c.delete.ensures.cause clean)
