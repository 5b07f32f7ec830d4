use Rattle.live.proofs.Groups.{none_for_nothing}
use Rattle.live.proofs.limited_laws.a_limit_of_nothing_removes_nothing.Goals as goal

pub returns : goal.returns
returns c = none_for_nothing
