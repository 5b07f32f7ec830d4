use Rattle.laws.proofs.Planting.{nobody_plants_in_runs}
use Rattle.laws.proofs.trust.nobody_plants_over_runs.Goals as goal

pub returns : goal.returns
returns c = nobody_plants_in_runs
