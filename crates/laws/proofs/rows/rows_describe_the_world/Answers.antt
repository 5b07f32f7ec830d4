use Rattle.tables_world.proofs.Columns.{reports_world}
use Rattle.laws.proofs.rows.rows_describe_the_world.Goals as goal

pub returns : goal.returns
returns c = reports_world
