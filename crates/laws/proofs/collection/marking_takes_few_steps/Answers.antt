use Rattle.laws.proofs.Steps.{takes_few_steps}
use Rattle.laws.proofs.collection.marking_takes_few_steps.Goals as goal

pub returns : goal.returns
returns c = takes_few_steps
