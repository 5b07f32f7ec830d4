use Rattle.std.proofs.Common.{[], subst, sym}
use Rattle.wire_bodies.specs.declared.error.BodyError.TheVariants.{BadBodyHead}
use Rattle.wire_bodies.specs.Bodies.{IsNamedBody}
use Rattle.wire_bodies.proofs.Passed.{same_fault}
use Rattle.wire_requests.proofs.Parting.{named_all, named_prefix}
use Rattle.wire_requests.proofs.adds.named_prefix.Goals as goal

pub returns-clause-ok : goal.returns-clause-ok
returns-clause-ok c = λ all lines.
    let head = c.in_ok-head.head in
    let after = c.in_ok-head.field-0-1.now in
    named_all c.args.dir.now all head after
    (subst (λ prefix. IsNamedBody c.args.dir.now prefix head after) (sym lines) c.in_ok-head.ensures.ok)

pub returns-in_err-head-clause-bad : goal.returns-in_err-head-clause-bad
returns-in_err-head-clause-bad c = λ same all lines head nar is.
    let reported =
    same_fault c.named_body.result c.from_residual.result c.in_err-head.field-0.0 BadBodyHead
    c.from_residual.ensures.1 c.in_err-head.was same in
    let prefix =
    subst (λ prefix. IsNamedBody c.args.dir.now prefix head []) lines
    (named_prefix c.args.dir.now all head nar is) in
    c.named_body.ensures.bad reported head [] prefix
