use Rattle.tables_world.proofs.Reported.{tables_rows}
use Rattle.laws.proofs.FaultyObjects.{archives_reported}
use Rattle.laws.proofs.rows.tables_are_rows.Goals as goal

pub returns-clause-rows : goal.returns-clause-rows
returns-clause-rows c = tables_rows

pub returns-clause-archives : goal.returns-clause-archives
returns-clause-archives c = archives_reported
