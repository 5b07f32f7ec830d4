use Rattle.laws.proofs.Freed.{collection_reported, deletion_reported}
use Rattle.laws.proofs.collection.the_freed_are_reported.Goals as goal

pub returns-clause-collection : goal.returns-clause-collection
returns-clause-collection c = collection_reported

pub returns-clause-deletion : goal.returns-clause-deletion
returns-clause-deletion c = deletion_reported
