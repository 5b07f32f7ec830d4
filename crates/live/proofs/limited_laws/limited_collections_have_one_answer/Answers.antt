use Rattle.live.proofs.UniqueGroups.{one_answer}
use Rattle.live.proofs.limited_laws.limited_collections_have_one_answer.Goals as goal

pub returns : goal.returns
returns c = one_answer
