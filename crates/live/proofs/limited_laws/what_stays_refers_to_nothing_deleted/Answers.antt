use Rattle.live.proofs.Groups.{nothing_refers}
use Rattle.live.proofs.limited_laws.what_stays_refers_to_nothing_deleted.Goals as goal

pub returns : goal.returns
returns c = nothing_refers
