use Rattle.std.proofs.Common.{refl}
use Rattle.wire_requests.specs.declared.kind.Kind.TheVariants.{Collect}
use Rattle.wire_requests.proofs.Nothing.{reads_nothing}
use Rattle.wire_requests.proofs.sweeps.collect.Goals as goal

pub returns-in_err-head : goal.returns-in_err-head
returns-in_err-head c = λ dir target.
    reads_nothing dir Collect target c.args.body.now c.collect_body.result c.in_err-head.field-0.0
    c.from_residual.result c.from_residual.ensures.1 c.in_err-head.was refl
    (λ reported q is. c.collect_body.ensures.bad reported is.0 is.1)
