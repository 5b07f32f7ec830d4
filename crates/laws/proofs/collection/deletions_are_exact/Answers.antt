use Rattle.laws.proofs.Deleted.{deletes}
use Rattle.laws.proofs.collection.deletions_are_exact.Goals as goal

pub returns : goal.returns
returns c = deletes
