use Rattle.std.proofs.Common.{refl}
use Rattle.wire_requests.specs.declared.kind.Kind.TheVariants.{SetUserRoot}
use Rattle.wire_requests.proofs.Nothing.{reads_nothing}
use Rattle.wire_requests.proofs.named.set_user_root.Goals as goal

pub returns-in_err-path : goal.returns-in_err-path
returns-in_err-path c = λ target are.
    reads_nothing c.args.dir.now SetUserRoot target c.args.body.now c.path_body.result c.in_err-path.field-0.0
    c.from_residual.result c.from_residual.ensures.1 c.in_err-path.was refl
    (λ reported q is. c.path_body.ensures.bad reported is.0 is.1)
