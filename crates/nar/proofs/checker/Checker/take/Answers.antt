use Rattle.nar.proofs.Taking.{passed_on}
use Rattle.nar.proofs.checker.Checker.take.Goals as goal

pub returns-in_err-rest-clause-err : goal.returns-in_err-rest-clause-err
returns-in_err-rest-clause-err c =
    passed_on _ _ _ c.from_residual.ensures.1
    (λ fault all bytes h. c.in_err-rest.ensures.err fault all bytes (c.pieces.invariant.has_read all bytes h))
