use Rattle.laws.proofs.Operations.{reads_and_adds, plain_only_add}
use Rattle.laws.proofs.trust.each_change_has_an_operation.Goals as goal

pub returns-clause-own : goal.returns-clause-own
returns-clause-own c = reads_and_adds

pub returns-clause-changes : goal.returns-clause-changes
returns-clause-changes c = plain_only_add
