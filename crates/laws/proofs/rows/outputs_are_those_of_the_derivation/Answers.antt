use Rattle.tables_world.proofs.Recorded.{outputs_are_recorded}
use Rattle.laws.proofs.rows.outputs_are_those_of_the_derivation.Goals as goal

pub returns : goal.returns
returns c = outputs_are_recorded
