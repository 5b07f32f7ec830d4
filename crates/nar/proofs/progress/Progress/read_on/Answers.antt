use Rattle.nar.proofs.Taking.{passed_on}
use Rattle.nar.proofs.progress.Progress.read_on.Goals as goal

pub returns-in_err-rest-clause-err : goal.returns-in_err-rest-clause-err
returns-in_err-rest-clause-err c = passed_on _ _ _ c.from_residual.ensures.1 c.in_err-rest.ensures.err
