use Rattle.std.proofs.Common.{refl}
use Rattle.wire_requests.specs.declared.kind.Kind.TheVariants.{ReplaceRuntime}
use Rattle.wire_requests.proofs.Nothing.{reads_nothing}
use Rattle.wire_requests.proofs.sweeps.replace_runtime.Goals as goal

pub returns-in_err-runtime_body : goal.returns-in_err-runtime_body
returns-in_err-runtime_body c = λ target.
    reads_nothing c.args.dir.now ReplaceRuntime target c.args.body.now c.runtime_body.result
    c.in_err-runtime_body.field-0.0 c.from_residual.result c.from_residual.ensures.1 c.in_err-runtime_body.was refl
    (λ reported q is. c.runtime_body.ensures.bad reported is.0 is.1)
