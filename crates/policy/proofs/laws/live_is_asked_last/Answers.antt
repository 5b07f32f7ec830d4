use Rattle.policy.proofs.Verdicts.{first_of_six-rest}
use Rattle.policy.proofs.laws.live_is_asked_last.Goals as goal

pub returns : goal.returns
returns c class who op names_live = first_of_six-rest _ _ _ _ _ _ _
