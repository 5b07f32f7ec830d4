use Rattle.live.proofs.Groups.{referrers_first}
use Rattle.live.proofs.limited_laws.referrers_are_deleted_with_it_or_before.Goals as goal

pub returns : goal.returns
returns c = referrers_first
