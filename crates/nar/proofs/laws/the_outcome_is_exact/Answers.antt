use Rattle.nar.proofs.Decided.{outcome_archive, outcome_fault}
use Rattle.nar.proofs.laws.the_outcome_is_exact.Goals as goal

pub returns-clause-tree : goal.returns-clause-tree
returns-clause-tree c = outcome_archive

pub returns-clause-fault : goal.returns-clause-fault
returns-clause-fault c = outcome_fault
