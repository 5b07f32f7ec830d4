use Rattle.laws.proofs.Faults.{session_faults_are_reported, names_come_first, profiles_come_next}
use Rattle.laws.proofs.Faults.{paths_come_before_numbers, named_are_present}
use Rattle.laws.proofs.refusals.first_faults_are_reported.Goals as goal

pub returns-clause-sessions : goal.returns-clause-sessions
returns-clause-sessions c = session_faults_are_reported

pub returns-clause-names : goal.returns-clause-names
returns-clause-names c = names_come_first

pub returns-clause-profiles : goal.returns-clause-profiles
returns-clause-profiles c = profiles_come_next

pub returns-clause-paths : goal.returns-clause-paths
returns-clause-paths c = paths_come_before_numbers

pub returns-clause-named : goal.returns-clause-named
returns-clause-named c = named_are_present
