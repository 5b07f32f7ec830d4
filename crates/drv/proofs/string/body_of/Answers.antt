use Rattle.std.proofs.Common.{◌∙◌, ◌+◌, sym, ap, arith, Some, drop, get_or}
use Rattle.std.proofs.lemmas.List.{take_rest, append-nil}
use Rattle.drv.specs.Reading.{body_at}
use Rattle.drv.proofs.Bodies.{with_bytes, body_none, escape_fails, escape_goes_on, quote_ends, backslash_goes_on}
use Rattle.drv.proofs.Bodies.{plain_goes_on, pushed}
use Rattle.drv.proofs.string.body_of.Goals as goal
use Rattle.drv.proofs.string.body_of.Goals.{then-escaped+in-Some+in_ok-push, else-escaped+else-b-eq34+then-b-eq92}
use Rattle.drv.proofs.string.body_of.Goals.{else-escaped+else-b-eq34+else-b-eq92+in_ok-push-2}

pub returns-in_default : goal.returns-in_default
returns-in_default c =
    sym c.loop-i.invariant
    ∙ ap (with_bytes c.loop-i.bytes.items)
    (escape_fails c.loop-i.escaped c.args.body.now c.loop-i.i c.loop-i-test.true c.if-escaped.true
    c.in_default.ensures)

pub returns-then-b-eq34 : goal.returns-then-b-eq34
returns-then-b-eq34 c =
    sym c.loop-i.invariant
    ∙ ap (with_bytes c.loop-i.bytes.items)
    (quote_ends c.loop-i.escaped c.args.body.now c.loop-i.i c.loop-i-test.true c.if-escaped.false c.if-b-eq34.true)
    ∙ ap (λ bytes. Some (bytes, drop (c.loop-i.i + 1) c.args.body.now)) (append-nil c.loop-i.bytes.items)
    ∙ ap (λ rest. Some (c.loop-i.bytes.items, rest)) (sym (take_rest c.args.body.now (c.loop-i.i + 1)))

pub loop-i-preserved : goal.loop-i-preserved
loop-i-preserved c =
    let t = c.args.body.now in
    let i = c.loop-i.i in
    let front = c.loop-i.bytes.items in
    let now = c.if-escaped.escaped in
    let next = body_at now (drop (i + 1) t) in
    elim c.if-escaped.branch [
      | then-escaped+in-Some+in_ok-push w ↦
          pushed front c.if-escaped.bytes.items w.in-Some.byte next _
          (ap (λ v. v.items) w.bytes-is ∙ w.in_ok-push.ensures.items)
          (sym (ap (with_bytes front) (escape_goes_on c.loop-i.escaped now t i w.in-Some.byte c.loop-i-test.true
          w.if-escaped.true w.escaped-is w.in-Some.ensures)) ∙ c.loop-i.invariant)
      | else-escaped+else-b-eq34+then-b-eq92 w ↦
          ap (λ v. with_bytes v.items next) w.bytes-is
          ∙ sym (ap (with_bytes front)
          (backslash_goes_on c.loop-i.escaped now t i c.loop-i-test.true w.if-escaped.false w.escaped-is
          w.if-b-eq92.true)) ∙ c.loop-i.invariant
      | else-escaped+else-b-eq34+else-b-eq92+in_ok-push-2 w ↦
          pushed front c.if-escaped.bytes.items (get_or t i 0) next _
          (ap (λ v. v.items) w.bytes-is ∙ w.in_ok-push-2.ensures.items)
          (sym (ap (with_bytes front) (plain_goes_on c.loop-i.escaped now t i c.loop-i-test.true w.if-escaped.false
          w.escaped-is w.if-b-eq34.false w.if-b-eq92.false)) ∙ c.loop-i.invariant)
    ]

pub returns : goal.returns
returns c =
    sym c.loop-i.invariant ∙ ap (with_bytes c.loop-i.bytes.items)
    (body_none c.loop-i.escaped c.args.body.now c.loop-i.i (omega arith))
