use Rattle.std.proofs.Common.{refl}
use Rattle.wire_requests.specs.declared.kind.Kind.TheVariants.{Delete}
use Rattle.wire_requests.proofs.Nothing.{reads_nothing}
use Rattle.wire_requests.proofs.sweeps.delete.Goals as goal

pub returns-in_err-head : goal.returns-in_err-head
returns-in_err-head c = λ target.
    reads_nothing c.args.dir.now Delete target c.args.body.now c.delete_body.result c.in_err-head.field-0.0
    c.from_residual.result c.from_residual.ensures.1 c.in_err-head.was refl
    (λ reported q is. c.delete_body.ensures.bad reported is.0 is.1)
