use Rattle.laws.proofs.AddFaults.{texts_are_measured, digests_come_first, missing_are_missing}
use Rattle.laws.proofs.adds.adds_are_refused_for_their_faults.Goals as goal

pub returns-clause-size : goal.returns-clause-size
returns-clause-size c = texts_are_measured

pub returns-clause-digest : goal.returns-clause-digest
returns-clause-digest c = digests_come_first

pub returns-clause-missing : goal.returns-clause-missing
returns-clause-missing c = missing_are_missing
