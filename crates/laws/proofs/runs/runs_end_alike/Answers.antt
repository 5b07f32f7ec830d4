use Rattle.laws.proofs.Unique.{runs_end_alike}
use Rattle.laws.proofs.runs.runs_end_alike.Goals as goal

pub returns : goal.returns
returns c = runs_end_alike
