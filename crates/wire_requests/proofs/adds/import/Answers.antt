use Rattle.std.proofs.Common.{refl}
use Rattle.model.specs.Request.{import_object}
use Rattle.wire_requests.specs.View.{imported}
use Rattle.wire_requests.specs.declared.kind.Kind.TheVariants.{Import}
use Rattle.wire_requests.proofs.Nothing.{makes_nothing}
use Rattle.wire_requests.proofs.adds.import.Goals as goal

pub returns-in_err-read_import : goal.returns-in_err-read_import
returns-in_err-read_import c = λ target all is.
    makes_nothing c.args.dir.now Import target all c.read_import.result c.in_err-read_import.field-0.0
    c.from_residual.result c.from_residual.ensures.1 c.in_err-read_import.was refl
    (λ reported q asks. (c.read_import.ensures.made all is).bad reported asks.0 asks.1 asks.2)

pub returns : goal.returns
returns c = λ target all is.
    let made = (c.in_ok-read_import.ensures.made all is).ok in
    (import_object (imported made.0 made.1), (made.0, made.1, made.2, refl), made.3)
