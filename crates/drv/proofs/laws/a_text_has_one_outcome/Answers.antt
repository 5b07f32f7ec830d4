use Rattle.drv.proofs.Outcomes.{one_outcome}
use Rattle.drv.proofs.laws.a_text_has_one_outcome.Goals as goal

pub returns : goal.returns
returns c = one_outcome
