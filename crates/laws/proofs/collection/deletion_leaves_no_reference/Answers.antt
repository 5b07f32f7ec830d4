use Rattle.model.proofs.Deleting.{leaves_no_reference}
use Rattle.laws.proofs.collection.deletion_leaves_no_reference.Goals as goal

pub returns : goal.returns
returns c = leaves_no_reference
