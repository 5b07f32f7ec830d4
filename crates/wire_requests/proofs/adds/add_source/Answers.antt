use Rattle.std.proofs.Common.{◌∙◌, ℕ, List, refl, sym, ap}
use Rattle.std.specs.Prelude.{is_none}
use Rattle.intake.specs.Arrival.{bytes_in}
use Rattle.model.specs.Request as asked
use Rattle.store_types.specs.declared.requests.Request.TheVariants as made
use Rattle.wire_bodies.specs.Prefix.{rest_of}
use Rattle.wire_requests.specs.declared.kind.Kind.TheVariants.{AddSource}
use Rattle.wire_requests.proofs.Nothing.{makes_nothing}
use Rattle.wire_requests.proofs.Parting.{lines_in, made_of}
use Rattle.wire_requests.proofs.adds.add_source.Goals as goal

pub returns-in_err-head : goal.returns-in_err-head
returns-in_err-head c = λ target all is.
    let lines = lines_in c.args.body.0 c.args.body.1 all is ∙ sym c.lines.ensures.now in
    makes_nothing c.args.dir.now AddSource target all c.named_prefix.result c.in_err-head.field-0.0
    c.from_residual.result c.from_residual.ensures.1 c.in_err-head.was refl
    (λ reported q asks. c.named_prefix.ensures.bad reported all lines asks.0 asks.1 asks.2)

pub returns : goal.returns
returns c = λ target all is.
    let head = c.in_ok-head.head in
    let lines = lines_in c.args.body.0 c.args.body.1 all is ∙ sym c.lines.ensures.now in
    let of = λ (nar : List ℕ). asked.add_source head.name head.references.items nar in
    let made =
    made_of (made.AddSource head.name head.references c.into_archive.result) of c.args.body.1 c.args.body.0 all
    (ap (λ nar. of (bytes_in nar)) c.into_archive.ensures) refl (ap is_none c.into_archive.ensures) is in
    (of (rest_of all), (head, rest_of all, c.in_ok-head.ensures.ok all lines, refl), made)
