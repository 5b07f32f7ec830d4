use Rattle.wire_bodies.specs.declared.error.BodyError.TheVariants.{BadBodyHead}
use Rattle.wire_bodies.proofs.Passed.{same_fault}
use Rattle.wire_requests.proofs.sweeps.runtime_body.Goals as goal

pub returns-in_err-roots-clause-bad : goal.returns-in_err-roots-clause-bad
returns-in_err-roots-clause-bad c = λ same.
    c.runtime_body.ensures.bad (same_fault c.runtime_body.result c.from_residual.result c.in_err-roots.field-0.0
    BadBodyHead c.from_residual.ensures.1 c.in_err-roots.was same)
