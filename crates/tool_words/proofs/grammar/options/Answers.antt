use Rattle.std.proofs.Common.{ap, ap₂, ◌∙◌}
use Rattle.std.proofs.lemmas.Result.{IfOk-weaker}
use Rattle.clap.specs.Simple.{app_of_fields, with_rule}
use Rattle.tool_words.specs.Grammar.{with_version}
use Rattle.tool_words.proofs.grammar.options.Goals as goal

pub returns : goal.returns
returns c =
    let named = ap app_of_fields c.about.ensures ∙ c.new.ensures.app in
    let empty = ap app_of_fields c.version.ensures ∙ ap with_version named in
    let first = c.in_ok-arg.ensures.shape c.option.ensures.local ∙ ap₂ with_rule empty c.option.ensures.rule in
    let second = c.in_ok-arg-2.ensures.shape c.option-2.ensures.local ∙ ap₂ with_rule first c.option-2.ensures.rule in
    let third = c.in_ok-arg-3.ensures.shape c.option-3.ensures.local ∙ ap₂ with_rule second c.option-3.ensures.rule in
    IfOk-weaker c.arg-4.result _ _
    (λ r added. added.shape c.option-4.ensures.local ∙ ap₂ with_rule third c.option-4.ensures.rule) c.arg-4.ensures
