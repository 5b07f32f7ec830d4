use Rattle.tables_sql.proofs.Steps.{leaves_by}
use Rattle.tables_sql.proofs.transaction.commit.Goals as goal

pub returns-clause-leaves : goal.returns-clause-leaves
returns-clause-leaves g c = leaves_by _ _ c.commit.ensures.survives
