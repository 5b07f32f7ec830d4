use Rattle.std.proofs.Common.{◌≡◌, ◌-◌, arith, length, drop, refl, sym, ap, ◌∙◌, subst}
use Rattle.wire_requests.specs.declared.kind.Kind.TheVariants.{AddText}
use Rattle.wire_requests.proofs.Nothing.{reads_nothing}
use Rattle.wire_requests.proofs.Payloads.{payload_last}
use Rattle.wire_bodies.specs.Bodies.{IsNamedBody}
use Rattle.wire_requests.proofs.adds.add_text.Goals as goal

pub returns : goal.returns
returns c = λ target.
    let head = c.in_ok-head.head in
    let contents = c.in_ok-head.contents.now in
    let is = rw c.deref.ensures.value at c.in_ok-head.ensures.ok in
    let start : c.saturating_sub-start.result ≡ length c.args.body.items - length contents =
    omega (arith, c.saturating_sub-start.ensures, c.len.ensures, c.args.body.ok.0) in
    let last : drop c.saturating_sub-start.result c.args.body.items ≡ contents =
    ap (λ n. drop n c.args.body.items) start ∙ payload_last c.args.body.items is.0 contents is.1 in (
      head,
      c.drain_prefix.new.buffer.items,
      subst (λ t. IsNamedBody c.args.dir.now c.args.body.items head t) (sym (c.drain_prefix.ensures ∙ last)) is,
      refl,
    )

pub returns-in_err-head : goal.returns-in_err-head
returns-in_err-head c = λ target.
    reads_nothing c.args.dir.now AddText target c.args.body.items c.named_body.result c.in_err-head.field-0.0
    c.from_residual.result c.from_residual.ensures.1 c.in_err-head.was refl
    (λ reported q is. (rw c.deref.ensures.value at (c.named_body.ensures.bad reported)) is.0 is.1 is.2)
