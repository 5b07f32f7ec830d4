-- What the words of a command line stand for.
use Rattle.std.specs.Prelude.{◌≡◌, ⊤, List, [], codes, Option, Result, Ok, Err}
use Rattle.std.specs.Option.{option_map_or}
use Rattle.clap.specs.Walk.{Row, Text, first_of}
use Rattle.clap.specs.Simple.{matches_of, subcommand_of}
use Rattle.clap.specs.Faults.{fault_of}
use Rattle.clap.specs.Kinds.{Kinds, IsAmong}
use Rattle.clap.specs.Values.{kind_of}
use Rattle.tool_words.specs.declared.error.CommandError.{CommandError}
use Rattle.tool_words.specs.declared.error.CommandError.TheVariants as error
use Rattle.tool_words.specs.declared.error.UsageFault.{UsageFault}
use Rattle.tool_words.specs.declared.error.UsageFault.TheVariants.{NoSubcommand}
use Rattle.tool_words.specs.declared.line.CommandLine.{CommandLine}
use Rattle.tool_words.specs.declared.verb.Verb.{Verb}
use Rattle.tool_words.specs.declared.verb.Verb.TheVariants as verb
use Rattle.tool_words.specs.Verbs.{verb_named}
use Rattle.tool_words.specs.Grammar.{nixkeep_app}
use Rattle.tool_words.specs.Values.{required, all_values, is_given, number}
use Rattle.tool_words.specs.Actions.{on_profile, on_session, root_kind, unrooted, limit, served}
use Rattle.paths.specs.Decimal.{session_number}
use Rattle.tool_words.specs.Asked.{Asked, who, ls, text_path, source_path, add_text, add_source, import_object, runtime}
use Rattle.tool_words.specs.Asked.{info, cat_nar, why, list_paths, roots, list_live, list_dead, report, root, profile}
use Rattle.tool_words.specs.Asked.{temp, gc, delete, serve, asked_view, optional_text}

-- a command line: its options and its subcommand
pub record Line : Type 0 where
  pub db : Option Text
  pub config : Option Text
  pub user : Option Text
  pub group : Option Text
  pub asked : Asked

-- what is made of a value, or its fault
abbrev pub with_value : {A B : Type 0} → (A → B) → Result A UsageFault → Result B UsageFault
with_value f (Ok a) = Ok (f a)
with_value f (Err fault) = Err fault

-- the name and the references of a store object
abbrev pub object : List Row → Text × List Text
object rs = (required (codes "name") rs, all_values (codes "reference") rs)

-- a subcommand with the values of its arguments
abbrev pub asked_of : Verb → List Row → Result Asked UsageFault
asked_of verb.Who rs = Ok who
asked_of verb.Ls rs = Ok ls
asked_of verb.TextPath rs = Ok (text_path (object rs))
asked_of verb.SourcePath rs = Ok (source_path (object rs))
asked_of verb.AddText rs = Ok (add_text (object rs))
asked_of verb.AddSource rs = Ok (add_source (object rs))
asked_of verb.Import rs = Ok import_object
asked_of verb.Runtime rs = Ok runtime
asked_of verb.Info rs = Ok (info (required (codes "path") rs))
asked_of verb.CatNar rs = Ok (cat_nar (required (codes "path") rs))
asked_of verb.Why rs = Ok (why (required (codes "path") rs))
asked_of verb.List rs = Ok list_paths
asked_of verb.Roots rs = Ok roots
asked_of verb.Live rs = Ok list_live
asked_of verb.Dead rs = Ok list_dead
asked_of verb.Report rs = Ok report
asked_of verb.Root rs = Ok (root (root_kind rs) (required (codes "name") rs) (required (codes "path") rs))
asked_of verb.Unroot rs =
    unrooted (is_given (codes "permanent") rs) (first_of (codes "owner") rs) (required (codes "name") rs)
asked_of verb.Profile rs =
    with_value (profile (first_of (codes "owner") rs) (required (codes "name") rs))
    (on_profile (required (codes "action") rs) (first_of (codes "value") rs))
asked_of verb.Temp rs =
    with_value (temp (first_of (codes "owner") rs) (session_number (required (codes "session") rs)))
    (on_session (required (codes "action") rs) (first_of (codes "path") rs))
asked_of verb.Gc rs = with_value (gc (is_given (codes "ignore-liveness") rs)) (limit (first_of (codes "max-freed") rs))
asked_of verb.Delete rs = Ok (delete (is_given (codes "ignore-liveness") rs) (all_values (codes "path") rs))
asked_of verb.Serve rs = with_value serve (served (number 16 (codes "port") rs) (number 32 (codes "connections") rs))

-- a subcommand by its name, with the values of its arguments
abbrev pub asked_by : Text → List Row → Result Asked UsageFault
asked_by name rs = option_map_or (λ v. asked_of v rs) (verb_named name) (Err NoSubcommand)

-- the command line of the matches of its options and of its subcommand
abbrev pub line_from : List Row → Option (Text × List Row) → Result Line UsageFault
line_from rs subcommand = with_value (λ asked. record {
  db = first_of (codes "db") rs;
  config = first_of (codes "config") rs;
  user = first_of (codes "user") rs;
  group = first_of (codes "group") rs;
  asked = asked;
}) (option_map_or (λ p. asked_by p.0 p.1) subcommand (Err NoSubcommand))

-- what words stand for, from the program's name on, by the matches that `clap` states of them
unfoldable pub line_of : List Text → Result Line UsageFault
line_of words = line_from (matches_of nixkeep_app words) (subcommand_of nixkeep_app words)

-- the kinds of fault that `clap` finds in words
unfoldable pub faults_of : List Text → Kinds
faults_of words = fault_of nixkeep_app words

-- a command line of the code, seen as its texts
abbrev pub line_view : CommandLine → Line
line_view c = record {
  db = optional_text c.db;
  config = optional_text c.config;
  user = optional_text c.user;
  group = optional_text c.group;
  asked = asked_view c.task;
}

-- the words stand for this command line
pub record IsLine (words : List Text) (line : Line) : Type 0 where
  pub no_fault : faults_of words ≡ []
  pub is_line : line_of words ≡ Ok line

-- nothing was found, for a fault or out of memory
abbrev pub Misses : {A : Type 0} → Result A UsageFault → CommandError → Type 0
Misses found (error.Usage fault) = ⊥
Misses found (error.Misuse fault) = found ≡ Err fault
Misses found error.Memory = ⊤

-- `clap` found a fault of one of these kinds, or memory was refused
abbrev pub IsRefusal : Kinds → CommandError → Type 0
IsRefusal kinds (error.Usage fault) = IsAmong (kind_of fault) kinds
IsRefusal kinds (error.Misuse fault) = ⊥
IsRefusal kinds error.Memory = ⊤

-- why words stand for no command line: `clap` finds such a fault, or it finds none and they don't go together
abbrev pub IsUsageFault : List Text → CommandError → Type 0
IsUsageFault words (error.Usage fault) = IsAmong (kind_of fault) (faults_of words)
IsUsageFault words (error.Misuse fault) = (faults_of words ≡ []) × (line_of words ≡ Err fault)
IsUsageFault words error.Memory = ⊤
