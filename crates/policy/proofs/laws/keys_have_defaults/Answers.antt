use Rattle.std.proofs.Common.{refl}
use Rattle.policy.proofs.laws.keys_have_defaults.Goals as goal

pub returns : goal.returns
returns c = refl
