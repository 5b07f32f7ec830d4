use Rattle.laws.proofs.Usages.{adds_up}
use Rattle.laws.proofs.listings.usage_adds_up.Goals as goal

pub returns : goal.returns
returns c = adds_up
