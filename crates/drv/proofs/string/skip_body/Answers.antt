use Rattle.std.proofs.Common.{◌∙◌, ◌+◌, sym, ap, arith, Some}
use Rattle.std.specs.Option.{option_copied}
use Rattle.std.proofs.lemmas.List.{take_rest}
use Rattle.drv.specs.Reading.{rest_of}
use Rattle.drv.proofs.Bodies.{body_none, escape_fails, escape_goes_on, quote_ends, backslash_goes_on, plain_goes_on}
use Rattle.drv.proofs.Bodies.{rest_of-with_byte}
use Rattle.drv.proofs.string.skip_body.Goals as goal
use Rattle.drv.proofs.string.skip_body.Goals.{then-escaped+in_ok-unescaped, else-escaped+else-b-eq34+then-b-eq92}
use Rattle.drv.proofs.string.skip_body.Goals.{else-escaped+else-b-eq34+else-b-eq92}

pub returns-in_err-unescaped : goal.returns-in_err-unescaped
returns-in_err-unescaped c =
    ap option_copied c.from_residual.ensures
    ∙ sym (ap rest_of (escape_fails c.loop-i.escaped c.args.body.now c.loop-i.i c.loop-i-test.true c.if-escaped.true
    c.in_err-unescaped.ensures))
    ∙ c.loop-i.invariant

pub returns-then-b-eq34 : goal.returns-then-b-eq34
returns-then-b-eq34 c =
    ap (λ rest. Some rest) (take_rest c.args.body.now (c.loop-i.i + 1))
    ∙ sym (ap rest_of (quote_ends c.loop-i.escaped c.args.body.now c.loop-i.i c.loop-i-test.true c.if-escaped.false
    c.if-b-eq34.true))
    ∙ c.loop-i.invariant

pub loop-i-preserved : goal.loop-i-preserved
loop-i-preserved c =
    let t = c.args.body.now in
    let i = c.loop-i.i in
    elim c.if-escaped.branch [
      | then-escaped+in_ok-unescaped w ↦
          sym (ap rest_of (escape_goes_on c.loop-i.escaped c.if-escaped.escaped t i w.in_ok-unescaped.field-0
          c.loop-i-test.true w.if-escaped.true w.escaped-is w.in_ok-unescaped.ensures) ∙ rest_of-with_byte _ _)
          ∙ c.loop-i.invariant
      | else-escaped+else-b-eq34+then-b-eq92 w ↦
          sym (ap rest_of (backslash_goes_on c.loop-i.escaped c.if-escaped.escaped t i c.loop-i-test.true
          w.if-escaped.false w.escaped-is w.if-b-eq92.true)) ∙ c.loop-i.invariant
      | else-escaped+else-b-eq34+else-b-eq92 w ↦
          sym (ap rest_of (plain_goes_on c.loop-i.escaped c.if-escaped.escaped t i c.loop-i-test.true w.if-escaped.false
          w.escaped-is w.if-b-eq34.false w.if-b-eq92.false) ∙ rest_of-with_byte _ _) ∙ c.loop-i.invariant
    ]

pub returns : goal.returns
returns c = ap rest_of (sym (body_none c.loop-i.escaped c.args.body.now c.loop-i.i (omega arith))) ∙ c.loop-i.invariant
