use Rattle.live.proofs.Beyond.{all_removed}
use Rattle.live.proofs.limited_laws.a_limit_beyond_all_removes_all.Goals as goal

pub returns : goal.returns
returns c = all_removed
