use Rattle.laws.proofs.Collecting.{collects}
use Rattle.model.proofs.Limited.{collects_up_to}
use Rattle.laws.proofs.collection.collection_is_exact.Goals as goal

pub returns-clause-all : goal.returns-clause-all
returns-clause-all c = collects

pub returns-clause-limited : goal.returns-clause-limited
returns-clause-limited c = collects_up_to
