use Rattle.std.proofs.Common.{ap, ap₂, sym, ◌∙◌, take_all}
use Rattle.std.specs.Prelude.{fold}
use Rattle.std.proofs.lemmas.List.Sums.{fold_more}
use Rattle.clap.specs.Simple.{App, Shape, with_subcommand}
use Rattle.tool_words.specs.declared.verb.Verb.{Verb}
use Rattle.tool_words.specs.declared.verb.Verb.TheVariants.{Who}
use Rattle.tool_words.specs.Grammar.{nixkeep_app, adding, app_for, options_app}
use Rattle.tool_words.specs.Verbs.{verbs}
use Rattle.tool_words.proofs.grammar.nixkeep.Goals as goal

-- the settings of a subcommand
abbrev top : App → Shape
top a = a.top

pub verbs-preserved : goal.verbs-preserved
verbs-preserved c =
    c.in_ok-command-2.ensures.shape c.in_ok-subcommand.ensures.local
    ∙ ap₂ with_subcommand c.verbs.invariant (ap top c.in_ok-subcommand.ensures.app)
    ∙ sym (fold_more (λ (app : App) (verb : Verb). adding app (app_for verb)) options_app verbs c.verbs.verb-index Who
    c.verbs-test.true)

pub returns : goal.returns
unfolding nixkeep_app
returns c =
    c.verbs.invariant ∙ ap (fold (λ (app : App) (verb : Verb). adding app (app_for verb)) options_app)
    (take_all c.verbs.verb-index verbs c.verbs-test.false)
