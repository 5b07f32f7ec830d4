use Rattle.std.proofs.Common.{◌≡◌, List, Some, Err, ap, sym, subst, ◌∙◌}
use Rattle.std.specs.Option.{option_map_or}
use Rattle.std.proofs.lemmas.Result.{IfOk-weaker, IfErr-weaker}
use Rattle.clap.specs.Walk.{Row, Text}
use Rattle.clap.specs.Simple.{subcommand_rows_of}
use Rattle.clap.specs.declared.parser.matches.ArgMatches.TheViews.{out-ArgMatches}
use Rattle.tool_words.specs.declared.error.UsageFault.TheVariants.{NoSubcommand}
use Rattle.tool_words.specs.Line.{asked_by, Misses}
use Rattle.tool_words.specs.Values.{rows}
use Rattle.tool_words.proofs.Entering.{met}
use Rattle.tool_words.proofs.parse.subcommand.Goals as goal

pub returns-in-Some-clause-ok : goal.returns-in-Some-clause-ok
returns-in-Some-clause-ok c =
    let is : subcommand_rows_of c.args.matches.now ≡ Some (c.in-Some.name.now, rows c.in-Some.matches.now) =
    met (out-ArgMatches c.args.matches.now).subcommand _ _ c.in-Some.ensures.name c.in-Some.ensures.rows in
    IfOk-weaker c.named.result _ _
    (λ t named. ap (λ o. option_map_or (λ (p : Text × List Row). asked_by p.0 p.1) o (Err NoSubcommand)) is ∙ named)
    c.named.ensures.ok

pub returns-in-Some-clause-err : goal.returns-in-Some-clause-err
returns-in-Some-clause-err c =
    let is : subcommand_rows_of c.args.matches.now ≡ Some (c.in-Some.name.now, rows c.in-Some.matches.now) =
    met (out-ArgMatches c.args.matches.now).subcommand _ _ c.in-Some.ensures.name c.in-Some.ensures.rows in
    IfErr-weaker c.named.result _ _ (λ e misses. subst (λ r. Misses r e)
    (sym (ap (λ o. option_map_or (λ (p : Text × List Row). asked_by p.0 p.1) o (Err NoSubcommand)) is)) misses)
    c.named.ensures.err
