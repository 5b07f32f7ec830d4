use Rattle.std.proofs.Common.{sym, ◌∙◌}
use Rattle.paths.proofs.Decimals.{reads, reads_none, by_parts, refused}
use Rattle.paths.proofs.numbers.decimal.Goals as goal

pub returns-then-has_more_before : goal.returns-then-has_more_before
returns-then-has_more_before c = refused c.args.text.now (sym c.has_more_before.ensures ∙ c.if-has_more_before.true)

pub returns-in-Ok : goal.returns-in-Ok
returns-in-Ok c =
    let front = by_parts _ _ (sym c.has_more_before.ensures ∙ c.if-has_more_before.false) in
    let parsed = c.in-Ok.ensures.value.0 in
    reads c.args.text.now c.in-Ok.number front.0 front.1 parsed.0.0 parsed.0.1 parsed.1

pub returns-in-Err : goal.returns-in-Err
returns-in-Err c =
    let front = by_parts _ _ (sym c.has_more_before.ensures ∙ c.if-has_more_before.false) in
    reads_none c.args.text.now front.0 c.in-Err.ensures.value.0
