use Rattle.laws.proofs.NamedLive.{denials_are_for_the_first}
use Rattle.laws.proofs.Reasons.{refusals_have_reasons, reported_are_valid}
use Rattle.laws.proofs.NotDone.{faults_are_not_done}
use Rattle.laws.proofs.refusals.refusals_and_denials_have_reasons.Goals as goal

pub returns-clause-refusals : goal.returns-clause-refusals
returns-clause-refusals c = refusals_have_reasons

pub returns-clause-faults : goal.returns-clause-faults
returns-clause-faults c = faults_are_not_done

pub returns-clause-reported : goal.returns-clause-reported
returns-clause-reported c = reported_are_valid

pub returns-clause-denials : goal.returns-clause-denials
returns-clause-denials c = denials_are_for_the_first
