-- The answer of a command line whose configuration or words are refused, or for which memory ran out.
use Rattle.std.proofs.Common.{◌≡◌, ◌≢◌, ◌⊎◌, ◌↔◌, ℕ, Bool, true, false, List, Option, Some, None, Result, Ok, Err}
use Rattle.std.proofs.Common.{String, Global, inl, inr, subst, refl, sym, ◌∙◌}
use Rattle.std.specs.Prelude.{IfOk, IsTrue, OnErr, is_some, string_bytes}
use Rattle.std.specs.Io.KnownBytes.{Keeps}
use Rattle.std.specs.declared.alloc.AllocError.{AllocError}
use Rattle.std.specs.declared.io.Error.{Error}
use Rattle.std.specs.Borrow.{Bor}
use Rattle.std.proofs.KnownBytes.{Keeps-refl}
use Rattle.clap.specs.Kinds.{IsAmong}
use Rattle.clap.specs.Values.{kind_of}
use Rattle.clap.specs.Walk.{Text}
use Rattle.clap.specs.declared.error.Error.{Error as UsageError}
use Rattle.clap.specs.declared.error.ErrorKind.{ErrorKind}
use Rattle.clap.specs.declared.error.ErrorKind.TheVariants.{DisplayHelp, DisplayVersion, MissingSubcommand}
use Rattle.clap.specs.declared.error.ErrorKind.TheVariants.{InvalidValue, MissingRequiredArgument, TooManyValues}
use Rattle.clap.specs.declared.error.ErrorKind.TheVariants.{ArgumentConflict, ValueValidation}
use Rattle.policy.specs.Settings.{Settings}
use Rattle.policy.specs.Toml.{config_of}
use Rattle.policy.specs.declared.error.KeyWord.{KeyWord}
use Rattle.model.specs.declared.refusal.Refusal.{Refusal}
use Rattle.model.specs.declared.refusal.Refusal.TheVariants.{BadConfig}
use Rattle.tool_words.specs.declared.error.CommandError.{CommandError}
use Rattle.tool_words.specs.declared.error.CommandError.TheVariants.{Usage, Misuse, Memory}
use Rattle.model.specs.declared.failures.Failure.TheVariants.{Memory as NoMemory}
use Rattle.tool_pure.specs.declared.stops.Stop.{Stop}
use Rattle.tool_pure.specs.declared.stops.Stop.TheVariants.{Refused, Failed}
use Rattle.tool_words.specs.declared.error.UsageFault.{UsageFault}
use Rattle.tool_words.specs.declared.error.UsageFault.TheVariants.{NoSubcommand, UnknownAction, MissingValue}
use Rattle.tool_words.specs.declared.error.UsageFault.TheVariants.{ExtraValue, OwnerOfPermanent, BadLimit}
use Rattle.tool_words.specs.declared.error.UsageFault.TheVariants.{ConnectionsWithoutPort}
use Rattle.tool_words.specs.Usage.{usage_kind}
use Rattle.tool_words.specs.declared.line.Task.{Task}
use Rattle.tool_words.specs.declared.line.Task.TheVariants as task
use Rattle.tool_words.specs.declared.line.Unrooted.{Unrooted}
use Rattle.tool_words.specs.declared.line.Unrooted.TheVariants as unrooted
use Rattle.tool_words.specs.Asked.{asked_view, optional_text, unroot_view}
use Rattle.tool_words.specs.Line.{Line, IsLine, IsUsageFault}
use Rattle.report.specs.Outputs.{Console, Printed, Prints, Written, on_errors}
use Rattle.tool_pure.specs.Configuration.{opened_by}
use Rattle.tool_pure.specs.Archive.{max_prefix}
use Rattle.tool_pure.specs.Object.{most_of_contents, object_fault}
use Rattle.tool_pure.specs.Stream.{Answers, AnswersInput, Says}
use Rattle.tool_pure.proofs.Results.{unread}
use Rattle.tool.specs.Streams.{StopsUnread}
use Rattle.tool_pure.specs.Who.{StopsFor}
use Rattle.tool.specs.Works.{Doing}
use Rattle.tool.specs.Answer.{AnswersLs, AnswersTextPath, AnswersSourcePath, AnswersUnder, Explains, ExplainsUsage}
use Rattle.tool.specs.Answer.{RunsLine, Stops}

-- standard error was given something, and standard output nothing
abbrev pub errors_only : Option (List ℕ) → Printed → Written
errors_only out p = record { output = record { old = out; new = out }; errors = p.writer; status = p.status }

-- why there is no answer was said on standard error
pub said_only : (stop : Stop) (out : Option (List ℕ)) (p : Printed) → Says stop p
    → Answers (Err stop) (errors_only out p)
said_only stop out p said = (Keeps-refl out, said)

-- the input wasn't read either
abbrev pub unread_console : Option (List ℕ) → Option (List ℕ) → Printed → Console
unread_console known out p = record { input = record { old = known; new = known }; written = errors_only out p }

pub said_unread : (stop : Stop) (known out : Option (List ℕ)) (p : Printed) → Says stop p
    → StopsUnread stop (unread_console known out p)
said_unread stop known out p said = (Keeps-refl known, said_only stop out p said)

said_as : (stop found : Stop) (known out : Option (List ℕ)) (p : Printed) → stop ≡ found → Says stop p
    → StopsUnread found (unread_console known out p)
said_as stop found known out p is said = said_unread found known out p (subst (λ x. Says x p) is said)

-- the stop of a configuration was said: the first writer got nothing, and the input wasn't read
pub stopped_under : (outcome : Result Settings KeyWord) (answered : Settings → Type 0) (stop : Stop)
    (known out : Option (List ℕ)) (p : Printed)
    → StopsFor outcome stop → Says stop p
    → ((s : Settings) → StopsUnread (Failed NoMemory) (unread_console known out p) → answered s)
    → AnswersUnder outcome answered (unread_console known out p)
stopped_under (Ok s) answered stop known out p (inl memory) said end =
    end s (said_as stop (Failed NoMemory) known out p memory said)
stopped_under (Err word) answered stop known out p (inl memory) said end =
    inr (said_as stop (Failed NoMemory) known out p memory said)
stopped_under outcome answered stop known out p (inr why) said end =
    rw why.1 (inl (said_as stop (Refused (BadConfig why.0)) known out p why.2 said))

-- so what reads the input answers a refused configuration
module _ (config : List ℕ) (known out : Option (List ℕ)) (p : Printed) (stop : Stop)
    (why : StopsFor (config_of config) stop) (said : Says stop p) where
  -- memory ran out, and nothing was read
  lacks : (fault : Option Refusal) (most : ℕ) (says : List ℕ → Result (List ℕ) Stop)
      → StopsUnread (Failed NoMemory) (unread_console known out p)
      → AnswersInput fault most says (unread_console known out p)
  lacks fault most says memory = record { answer = inl (inl memory.1); reads = unread fault most known }

  pub ls_stopped : AnswersLs config (unread_console known out p)
  ls_stopped = stopped_under (config_of config) _ stop known out p why said (λ s memory. inl (inl memory.1))

  pub text_stopped : (o : Text × List Text) → AnswersTextPath config o (unread_console known out p)
  text_stopped o =
      stopped_under (config_of config) _ stop known out p why said
      (λ s memory. lacks (object_fault s.store_dir o.0 o.1) most_of_contents _ memory)

  pub source_stopped : (o : Text × List Text) → AnswersSourcePath config o (unread_console known out p)
  source_stopped o =
      stopped_under (config_of config) _ stop known out p why said
      (λ s memory. lacks (object_fault s.store_dir o.0 o.1) max_prefix _ memory)

-- ---- words

-- words that form a command line are refused only if memory runs out
refused_line : (words : List (List ℕ)) (line : Line) (e : CommandError) → IsLine words line → IsUsageFault words e
    → e ≡ Memory
refused_line words line (Usage fault) is among = absurd (subst (IsAmong (kind_of fault)) is.no_fault among)
refused_line words line (Misuse fault) is found = let both : Ok line ≡ Err fault = sym is.is_line ∙ found.1 in cc
refused_line words line Memory is found = refl

pub line_refused : (of_file : Doing) (words : List (List ℕ)) (e : CommandError) (console : Console)
    → IsUsageFault words e
    → Explains e console.written → Keeps console.input.old console.input.new
    → (line : Line) → IsLine words line → RunsLine of_file line console
line_refused of_file words e console fault explained kept line is =
    inl (kept, subst (λ x. Explains x console.written) (refused_line words line e is fault) explained)

-- words stand for one command line
pub same_line : (words : List (List ℕ)) (a b : Line) → IsLine words a → IsLine words b → a ≡ b
same_line words a b first second =
    let both : ◌≡◌ {A = Result Line UsageFault} (Ok a) (Ok b) = sym first.is_line ∙ second.is_line in cc

-- so what is done for one of them is done for the command line
pub line_run : (of_file : Doing) (words : List (List ℕ)) (a b : Line) (console : Console) → IsLine words a
    → IsLine words b
    → RunsLine of_file a console → RunsLine of_file b console
line_run of_file words a b console first second ran =
    subst (λ l. RunsLine of_file l console) (same_line words a b first second) ran

-- ---- a configuration that can't be had

stops_unroot : (root : Unrooted) (name : Text) (stop : Stop) (console : Console) → StopsUnread stop console
    → Stops (unroot_view root name) stop console
stops_unroot unrooted.Permanent name stop console said = said
stops_unroot (unrooted.User owner) name stop console said = said

-- any subcommand but `who` says it as an answer
pub stops_else : (t : Task) (stop : Stop) (console : Console) → t ≢ task.Who → StopsUnread stop console
    → Stops (asked_view t) stop console
stops_else task.Who stop console not said = absurd (not refl)
stops_else (task.Unroot r) stop console not said = stops_unroot r.root r.name.now stop console said
stops_else t stop console not said = said

-- and `who` on standard output
pub stops_who : (t : Task) (stop : Stop) (known err : Option (List ℕ)) (p : Printed) → t ≡ task.Who → Says stop p
    → Stops (asked_view t) stop (record {
      input = record { old = known; new = known };
      written = record { output = p.writer; errors = record { old = err; new = err }; status = p.status };
    })
stops_who t stop known err p is said =
    subst (λ u. Stops (asked_view u) stop (record {
      input = record { old = known; new = known };
      written = record { output = p.writer; errors = record { old = err; new = err }; status = p.status };
    })) (sym is)
    (Keeps-refl known, said, Keeps-refl err)

-- ---- a configuration by what came of its file

pub text_some : (o : Option (Bor Text)) → is_some (optional_text o) ≡ is_some o
text_some None = refl
text_some (Some text) = refl

module _ {C : Type 0} (remaining : C → Option (List ℕ)) where
  pub opened_some : (file : Option (Result C Error)) → is_some (opened_by remaining file) ≡ is_some file
  opened_some None = refl
  opened_some (Some (Ok input)) = refl
  opened_some (Some (Err fault)) = refl

-- ---- faults of words in the form of `clap`

not_help : (fault : UsageFault) (kind : ErrorKind) → kind ≡ usage_kind fault
    → (kind ≡ DisplayHelp) ⊎ (kind ≡ DisplayVersion) → ⊥
not_help NoSubcommand kind is (inl help) = let no : MissingSubcommand ≡ DisplayHelp = sym is ∙ help in cc
not_help NoSubcommand kind is (inr help) = let no : MissingSubcommand ≡ DisplayVersion = sym is ∙ help in cc
not_help (UnknownAction of) kind is (inl help) = let no : InvalidValue ≡ DisplayHelp = sym is ∙ help in cc
not_help (UnknownAction of) kind is (inr help) = let no : InvalidValue ≡ DisplayVersion = sym is ∙ help in cc
not_help (MissingValue of) kind is (inl help) = let no : MissingRequiredArgument ≡ DisplayHelp = sym is ∙ help in cc
not_help (MissingValue of) kind is (inr help) = let no : MissingRequiredArgument ≡ DisplayVersion = sym is ∙ help in cc
not_help (ExtraValue of) kind is (inl help) = let no : TooManyValues ≡ DisplayHelp = sym is ∙ help in cc
not_help (ExtraValue of) kind is (inr help) = let no : TooManyValues ≡ DisplayVersion = sym is ∙ help in cc
not_help OwnerOfPermanent kind is (inl help) = let no : ArgumentConflict ≡ DisplayHelp = sym is ∙ help in cc
not_help OwnerOfPermanent kind is (inr help) = let no : ArgumentConflict ≡ DisplayVersion = sym is ∙ help in cc
not_help BadLimit kind is (inl help) = let no : ValueValidation ≡ DisplayHelp = sym is ∙ help in cc
not_help BadLimit kind is (inr help) = let no : ValueValidation ≡ DisplayVersion = sym is ∙ help in cc
not_help ConnectionsWithoutPort kind is (inl help) = let no : MissingRequiredArgument ≡ DisplayHelp =
    sym is ∙ help in cc
not_help ConnectionsWithoutPort kind is (inr help) = let no : MissingRequiredArgument ≡ DisplayVersion =
    sym is ∙ help in cc

-- a fault that `clap` didn't find itself asks for no help
pub misused : (fault : UsageFault) (e : UsageError) (w : Written) → kind_of e ≡ usage_kind fault → ExplainsUsage e w
    → Explains (Misuse fault) w
misused fault e w is (inl memory) = inr memory
misused fault e w is (inr reported) = inl (reported.1 (λ help. not_help fault (kind_of e) is help))

-- a text was given as its kind says, or there was no memory for it
pub explained : (e : UsageError) (is_fault : Bool) (text : Result (String Global) AllocError) (w : Written)
    → IsTrue is_fault ↔ ((kind_of e ≢ DisplayHelp) × (kind_of e ≢ DisplayVersion))
    → (is_fault ≡ true → IfOk text (λ t. Keeps w.output.old w.output.new × Prints (string_bytes t) 2 (on_errors w)))
    → (is_fault ≡ false → IfOk text (λ t. Answers (Ok (string_bytes t)) w))
    → OnErr text (Answers (Err (Failed NoMemory)) w) → ExplainsUsage e w
explained e is_fault (Err lack) w decided fault help memory = inl memory
explained e true (Ok text) w decided fault help memory =
    let none = decided.0 refl in
    inr (
      (λ asks. absurd (elim asks [ inl is ↦ none.0 is | inr is ↦ none.1 is ])),
      λ _. ((fault refl).0, (string_bytes text, (fault refl).1)),
    )
explained e false (Ok text) w decided fault help memory =
    inr (
      (λ _. (string_bytes text, help refl)),
      λ none.
          let no : IsTrue false =
          decided.1 ((λ is. none (inl is)), λ is. none (inr is)) in absurd (let wrong : false ≡ true = no in cc),
    )
