use Rattle.std.proofs.Common.{◌∙◌, sym, ap, Err}
use Rattle.std.proofs.lemmas.Result.{err_from_is_err_and}
use Rattle.paths.specs.Names.{begins}
use Rattle.drv.proofs.Texts.{base_not_below, base_not_text_at, base_fails, base_found_at}
use Rattle.drv.proofs.output.base_in.Goals as goal

pub returns-then-not-starts_with : goal.returns-then-not-starts_with
returns-then-not-starts_with c =
    base_not_below c.args.dir.now c.args.bytes.now
    (ap (begins c.args.bytes.now) (sym (c.as_bytes.ensures.value ∙ c.as_str.ensures.value))
    ∙ sym c.if-not-starts_with.ensures.value)

pub returns-in_default : goal.returns-in_default
returns-in_default c =
    let is = c.as_str.ensures.value in
    base_not_text_at c.as_str.result.now c.args.dir.now c.args.bytes.now is c.as_str.utf8 c.in_default.ensures.cases.0

pub returns : goal.returns
returns c =
    base_found_at c.args.dir.now c.args.bytes.now c.in-Ok.text.now c.in_ok-parse.field-0 c.as_str.ensures.valid
    (ap (begins c.args.bytes.now) (sym (c.as_bytes.ensures.value ∙ c.as_str.ensures.value))
    ∙ sym c.if-not-starts_with.ensures.value)
    c.in-Ok.ensures.cases.0 c.in_ok-parse.ensures.ok.0 c.in_ok-parse.ensures.ok.1

pub returns-in_err-parse : goal.returns-in_err-parse
returns-in_err-parse c =
    let p = err_from_is_err_and c.from_residual.result c.from_residual.ensures.1 in
    rw (p.1, p.2) (base_fails c.args.dir.now c.args.bytes.now c.in-Ok.text.now c.in_err-parse.field-0.0
    c.in-Ok.ensures.cases.0
    (λ is. c.in_err-parse.ensures.bad.0 (ap (λ e. Err e) is)))
