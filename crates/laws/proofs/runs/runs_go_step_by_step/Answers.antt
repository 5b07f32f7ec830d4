use Rattle.laws.proofs.StepByStep.{runs_go_step_by_step}
use Rattle.laws.proofs.runs.runs_go_step_by_step.Goals as goal

pub returns : goal.returns
returns c = runs_go_step_by_step
