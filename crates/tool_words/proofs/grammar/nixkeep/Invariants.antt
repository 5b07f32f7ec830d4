use Rattle.std.specs.Prelude.{◌≡◌, fold, take}
use Rattle.clap.specs.Simple.{app_of}
use Rattle.tool_words.specs.Grammar.{adding, app_for, options_app}
use Rattle.tool_words.specs.Verbs.{verbs}
use Rattle.tool_words.proofs.grammar.nixkeep.Given as goal

-- the first subcommands are added
abbrev pub invariant-verbs : goal.invariant-verbs
invariant-verbs l =
    app_of l.command ≡ fold (λ app verb. adding app (app_for verb)) options_app (take l.verb-index verbs)
