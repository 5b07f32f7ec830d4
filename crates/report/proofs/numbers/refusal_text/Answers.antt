use Rattle.std.proofs.Common.{◌++◌, ◌-◌, ap, arith, ◌∙◌}
use Rattle.std.proofs.lemmas.Result.{on_ok_weaker}
use Rattle.report.proofs.Numbered.{appended, number_at, same_text}
use Rattle.report.proofs.numbers.refusal_text.Goals as goal

pub returns-clause-ok : goal.returns-clause-ok
returns-clause-ok c =
    on_ok_weaker c.extend_from_slice.result
    (λ e r is. e ∙ ap (λ t. c.args.text.now.items ++ t)
    (c.as_bytes.ensures.value ∙ c.known_line.ensures
    ∙ same_text _ r (number_at (c.args.number - 1) (omega (arith, c.requires.0, c.requires.1)) _
    ∙ omega (arith, c.requires.0, is))))
    (appended c.extend_from_slice.result c.args.text.now.items _ _ c.extend_from_slice.ensures.items)
