use Rattle.std.proofs.Common.{ap₂, ◌∙◌}
use Rattle.std.specs.Prelude.{◌||◌}
use Rattle.std.proofs.lemmas.Result.{IfOk-weaker}
use Rattle.clap.specs.Simple.{with_rule}
use Rattle.tool_words.proofs.subcommands.serve.Goals as goal

pub returns : goal.returns
returns c =
    let first = c.plain.ensures.app in
    let second =
    c.in_ok-arg.ensures.shape c.port_option.ensures.local ∙ ap₂ with_rule first c.port_option.ensures.rule in
    let first_local = c.plain.ensures.local in
    let second_local = c.in_ok-arg.ensures.globals ∙ ap₂ (λ a b. a || b) first_local c.port_option.ensures.local in
    IfOk-weaker c.arg-2.result _ _ (λ r added. record {
      app = added.shape c.connections_option.ensures.local ∙ ap₂ with_rule second c.connections_option.ensures.rule;
      local = added.globals ∙ ap₂ (λ a b. a || b) second_local c.connections_option.ensures.local;
    }) c.arg-2.ensures
