use Rattle.std.proofs.Common.{ap₂, ◌∙◌}
use Rattle.std.specs.Prelude.{◌||◌}
use Rattle.std.proofs.lemmas.Result.{IfOk-weaker}
use Rattle.clap.specs.Simple.{with_rule}
use Rattle.tool_words.proofs.subcommands.path.Goals as goal

pub returns : goal.returns
returns c =
    let first = c.plain.ensures.app in
    let first_local = c.plain.ensures.local in
    IfOk-weaker c.arg.result _ _ (λ r added. record {
      app = added.shape c.required.ensures.local ∙ ap₂ with_rule first c.required.ensures.rule;
      local = added.globals ∙ ap₂ (λ a b. a || b) first_local c.required.ensures.local;
    }) c.arg.ensures
