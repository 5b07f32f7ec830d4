use Rattle.laws.proofs.Answered.{answered}
use Rattle.laws.proofs.runs.step_is_total.Goals as goal

pub returns : goal.returns
returns c = answered
