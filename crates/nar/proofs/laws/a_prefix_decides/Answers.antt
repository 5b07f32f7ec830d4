use Rattle.nar.proofs.Prefixes.{outcome_prefix}
use Rattle.nar.proofs.laws.a_prefix_decides.Goals as goal

pub returns : goal.returns
returns c = outcome_prefix
