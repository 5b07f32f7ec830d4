use Rattle.laws.proofs.RootsListed.{roots_set_are_reported}
use Rattle.laws.proofs.roots.roots_that_were_set_are_listed.Goals as goal

pub returns : goal.returns
returns c = roots_set_are_reported
