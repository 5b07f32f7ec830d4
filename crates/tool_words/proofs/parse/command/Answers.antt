use Rattle.std.proofs.Common.{◌≡◌, List, [], map, Result, true, ap, ap₂, refl, ◌∙◌, sym}
use Rattle.std.proofs.lemmas.Result.{IfOk-weaker, IfErr-weaker, err_from_is_err_and}
use Rattle.std.proofs.lemmas.Bool.{and_parts}
use Rattle.clap.specs.Kinds.{Kinds}
use Rattle.clap.specs.Walk.{Text}
use Rattle.clap.specs.Simple.{App, app_of, is_simple, matches_of, subcommand_of}
use Rattle.clap.specs.Faults.{is_simple_and_free, fault_of}
use Rattle.clap.proofs.OnLiterals.{clap_on_literals}
use Rattle.tool_words.specs.declared.error.CommandError.{CommandError}
use Rattle.tool_words.specs.declared.error.CommandError.TheVariants.{Usage, Misuse, Memory}
use Rattle.tool_words.specs.declared.error.UsageFault.{UsageFault}
use Rattle.tool_words.specs.Grammar.{nixkeep_app}
use Rattle.tool_words.specs.Line.{Line, line_from, line_of, faults_of, Misses, IsRefusal, IsUsageFault}
use Rattle.tool_words.proofs.parse.command.Goals as goal

-- the command is one whose matches and faults `clap` states
app_is_free : is_simple_and_free nixkeep_app ≡ true
unfolding nixkeep_app clap_on_literals
app_is_free = refl

-- such a command is simple
simple_if_free : (a : App) → is_simple_and_free a ≡ true → is_simple a ≡ true
simple_if_free a free = (and_parts (is_simple a) _ free).0

-- words without a fault whose line misses something
missing : (words : List Text) (line : Result Line UsageFault) (e : CommandError) → faults_of words ≡ []
    → line ≡ line_of words → Misses line e → IsUsageFault words e
missing words line (Usage fault) none is h = absurd h
missing words line (Misuse fault) none is h = (none, sym is ∙ h)
missing words line Memory none is h = tt

-- words with a fault
refused : (words : List Text) (kinds : Kinds) (e : CommandError) → kinds ≡ faults_of words → IsRefusal kinds e
    → IsUsageFault words e
refused words kinds (Usage fault) is h = rw (← is) h
refused words kinds (Misuse fault) is h = absurd h
refused words kinds Memory is h = tt

pub returns-clause-ok : goal.returns-clause-ok
unfolding line_of faults_of
returns-clause-ok g c =
    let words = map g.S.AsStr.text c.args.words.now in
    let free = ap is_simple_and_free c.in_ok-nixkeep.ensures ∙ app_is_free in
    let none = sym (ap (λ a. fault_of a words) c.in_ok-nixkeep.ensures) ∙ c.in_ok-matches.ensures.kinds free in
    let stated = c.in_ok-matches.ensures.matches (simple_if_free (app_of c.in_ok-nixkeep.nixkeep) free) in
    let line =
    ap₂ line_from (stated.0 ∙ ap (λ a. matches_of a words) c.in_ok-nixkeep.ensures)
    (stated.1 ∙ ap (λ a. subcommand_of a words) c.in_ok-nixkeep.ensures) in
    IfOk-weaker c.read.result _ _ (λ found stands. record { no_fault = none; is_line = sym line ∙ stands })
    c.read.ensures.ok

pub returns-clause-err : goal.returns-clause-err
unfolding line_of faults_of
returns-clause-err g c =
    let words = map g.S.AsStr.text c.args.words.now in
    let free = ap is_simple_and_free c.in_ok-nixkeep.ensures ∙ app_is_free in
    let none = sym (ap (λ a. fault_of a words) c.in_ok-nixkeep.ensures) ∙ c.in_ok-matches.ensures.kinds free in
    let stated = c.in_ok-matches.ensures.matches (simple_if_free (app_of c.in_ok-nixkeep.nixkeep) free) in
    let line =
    ap₂ line_from (stated.0 ∙ ap (λ a. matches_of a words) c.in_ok-nixkeep.ensures)
    (stated.1 ∙ ap (λ a. subcommand_of a words) c.in_ok-nixkeep.ensures) in
    IfErr-weaker c.read.result _ _ (λ e misses. missing words _ e none line misses) c.read.ensures.err

pub returns-in_err-matches-clause-err : goal.returns-in_err-matches-clause-err
unfolding faults_of
returns-in_err-matches-clause-err g c =
    let words = map g.S.AsStr.text c.args.words.now in
    let free = ap is_simple_and_free c.in_ok-nixkeep.ensures ∙ app_is_free in
    let has = c.in_err-matches.ensures.kinds free in
    let p = err_from_is_err_and c.from_residual-in_err-matches.result c.from_residual-in_err-matches.ensures.1 in
    rw p.1 (refused words _ p.0 (ap (λ a. fault_of a words) c.in_ok-nixkeep.ensures) (p.2 _ has))
