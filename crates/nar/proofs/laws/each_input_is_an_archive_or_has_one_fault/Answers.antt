use Rattle.nar.proofs.Decided.{archive_or_fault}
use Rattle.nar.proofs.Faults.{one_cause, archive_has_none}
use Rattle.nar.proofs.Files.{memory_is_none}
use Rattle.nar.proofs.laws.each_input_is_an_archive_or_has_one_fault.Goals as goal

pub returns-clause-either : goal.returns-clause-either
returns-clause-either c = archive_or_fault

pub returns-clause-not_both : goal.returns-clause-not_both
returns-clause-not_both c = λ input t e h a f. archive_has_none t input e h a f

pub returns-clause-one_fault : goal.returns-clause-one_fault
returns-clause-one_fault c = λ input e f h a b. one_cause input e f h a b

pub returns-clause-no_memory : goal.returns-clause-no_memory
returns-clause-no_memory c = memory_is_none
