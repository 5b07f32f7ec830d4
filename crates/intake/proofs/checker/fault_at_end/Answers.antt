use Rattle.std.proofs.Common.{◌≢◌, ap, sym, ◌∙◌, Err}
use Rattle.nar.specs.declared.error.NarError.TheVariants.{Memory}
use Rattle.nar.proofs.Decided.{outcome_archive, outcome_fault}
use Rattle.intake.specs.Arrival.{fault_of}
use Rattle.intake.proofs.checker.fault_at_end.Goals as goal

pub returns-in-Ok : goal.returns-in-Ok
returns-in-Ok c = λ all fed sound.
    let found = c.in-Ok.ensures.answer all fed in
    sym (ap fault_of ((outcome_archive all found.0 fed.are_bytes).1 found.1))

pub returns-in-Err : goal.returns-in-Err
returns-in-Err c = λ all fed sound.
    let cause : c.in-Err.e ≢ Memory = λ is. sound (c.finish.ensures.memory (c.in-Err.is ∙ ap Err is)) in
    sym (ap fault_of ((outcome_fault all c.in-Err.e fed.are_bytes).1 (c.in-Err.ensures.answer all fed cause)))
