use Rattle.std.proofs.Common.{ap₂, ◌∙◌}
use Rattle.std.specs.Prelude.{◌||◌}
use Rattle.std.proofs.lemmas.Result.{IfOk-weaker}
use Rattle.clap.specs.Simple.{with_rule}
use Rattle.tool_words.proofs.subcommands.temp.Goals as goal

pub returns : goal.returns
returns c =
    let first = c.plain.ensures.app in
    let second = c.in_ok-arg.ensures.shape c.option.ensures.local ∙ ap₂ with_rule first c.option.ensures.rule in
    let third = c.in_ok-arg-2.ensures.shape c.required.ensures.local ∙ ap₂ with_rule second c.required.ensures.rule in
    let fourth =
    c.in_ok-arg-3.ensures.shape c.required-2.ensures.local ∙ ap₂ with_rule third c.required-2.ensures.rule in
    let first_local = c.plain.ensures.local in
    let second_local = c.in_ok-arg.ensures.globals ∙ ap₂ (λ a b. a || b) first_local c.option.ensures.local in
    let third_local = c.in_ok-arg-2.ensures.globals ∙ ap₂ (λ a b. a || b) second_local c.required.ensures.local in
    let fourth_local = c.in_ok-arg-3.ensures.globals ∙ ap₂ (λ a b. a || b) third_local c.required-2.ensures.local in
    IfOk-weaker c.arg-4.result _ _ (λ r added. record {
      app = added.shape c.optional.ensures.local ∙ ap₂ with_rule fourth c.optional.ensures.rule;
      local = added.globals ∙ ap₂ (λ a b. a || b) fourth_local c.optional.ensures.local;
    }) c.arg-4.ensures
