-- The answer to a command line, by the text of its configuration.
use Rattle.std.specs.Prelude.{◌≡◌, ◌⊎◌, ℕ, MatchOption, List, map, Option, None, is_some, Result, Ok, Err}
use Rattle.std.specs.Io.KnownBytes.{Keeps}
use Rattle.clap.specs.Values.{kind_of}
use Rattle.clap.specs.Walk.{Text}
use Rattle.clap.specs.declared.error.Error.{Error}
use Rattle.clap.specs.declared.error.ErrorKind.TheVariants.{DisplayHelp, DisplayVersion}
use Rattle.paths.specs.StorePath.{base_of}
use Rattle.policy.specs.Settings.{Settings}
use Rattle.policy.specs.Toml.{config_of}
use Rattle.policy.specs.declared.error.KeyWord.{KeyWord}
use Rattle.model.specs.declared.refusal.Refusal.TheVariants.{BadConfig}
use Rattle.tool_words.specs.declared.error.CommandError.{CommandError}
use Rattle.tool_words.specs.declared.error.CommandError.TheVariants.{Usage, Misuse, Memory}
use Rattle.tool_words.specs.declared.line.ServeArguments.{ServeArguments}
use Rattle.tool_words.specs.Asked.{Asked, who, ls, text_path, source_path, serve}
use Rattle.tool_words.specs.Line.{IsLine, Line}
use Rattle.model.specs.declared.failures.Failure.TheVariants.{Memory as NoMemory}
use Rattle.tool_pure.specs.declared.stops.Stop.{Stop}
use Rattle.tool_pure.specs.declared.stops.Stop.TheVariants.{Refused, Failed}
use Rattle.tool_pure.specs.Archive.{ls_answer, max_prefix}
use Rattle.tool_pure.specs.Configuration.{Opened, IsConfig}
use Rattle.tool.specs.Callers.{AnswersNamed}
use Rattle.tool_pure.specs.Object.{most_of_contents, object_fault, text_path_answer, source_path_answer}
use Rattle.report.specs.Outputs.{Console, Prints, Written, on_errors, on_output}
use Rattle.tool.specs.Requests.{Ask, asks}
use Rattle.tool.specs.Works.{DoesWith, Doing, calls, serves}
use Rattle.tool.specs.Streams.{StopsUnread}
use Rattle.tool_pure.specs.Stream.{Answers, AnswersInput, AnswersTo, Says}
use Rattle.tool_pure.specs.Who.{AnswersWho, verdict_of}

-- an answer under the settings of a configuration; or the line of its first key word, or memory ran out, and the input
-- isn't read
abbrev pub AnswersUnder : Result Settings KeyWord → (Settings → Type 0) → Console → Type 0
AnswersUnder (Ok s) answered console = answered s
AnswersUnder (Err word) answered console =
    StopsUnread (Refused (BadConfig word)) console ⊎ StopsUnread (Failed NoMemory) console

-- a text went to standard error, with the status of a usage error
abbrev pub RefusesWords : Written → Type 0
RefusesWords w = Keeps w.output.old w.output.new × ((text : List ℕ) × Prints text 2 (on_errors w))

-- `ls`, `text-path` and `source-path`, by the text of the configuration
abbrev pub AnswersLs : List ℕ → Console → Type 0
AnswersLs config console =
    AnswersUnder (config_of config) (λ s. AnswersTo None max_prefix ls_answer console) console

abbrev pub AnswersTextPath : List ℕ → Text × List Text → Console → Type 0
AnswersTextPath config o console = AnswersUnder (config_of config)
    (λ s. AnswersInput (object_fault s.store_dir o.0 o.1) most_of_contents
    (text_path_answer s.store_dir o.0 (map (base_of s.store_dir) o.1)) console) console

abbrev pub AnswersSourcePath : List ℕ → Text × List Text → Console → Type 0
AnswersSourcePath config o console = AnswersUnder (config_of config)
    (λ s. AnswersInput (object_fault s.store_dir o.0 o.1) max_prefix
    (source_path_answer s.store_dir o.0 (map (base_of s.store_dir) o.1)) console) console

-- The first argument of these definitions says what is done with the store of a file.

-- what is asked of a store is answered to the caller whom the line names, under the settings of the configuration
abbrev pub AnswersAsking : Doing → List ℕ → Line → Ask → Console → Type 0
AnswersAsking of_file config line ask console = AnswersUnder (config_of config)
    (λ s. AnswersNamed (λ c. DoesWith of_file line.db s (calls c ask) console) line console) console

-- the store of a file, or one in memory where none is named, is served under the settings of the configuration; or
-- memory ran out before, and the input isn't read
abbrev pub AnswersServing : Doing → List ℕ → Option Text → ServeArguments → Console → Type 0
AnswersServing of_file config db a console = AnswersUnder (config_of config)
    (λ s. StopsUnread (Failed NoMemory) console ⊎ DoesWith of_file db s (serves a) console) console

-- What a subcommand that makes no request of its own answers by the text of the configuration: `who`, all on standard
-- output, `ls`, the two paths, and `serve`. All others make one, and aren't answered so.
abbrev pub AnswersWithoutRequest : Doing → List ℕ → Line → Asked → Console → Type 0
AnswersWithoutRequest of_file config line who console =
    AnswersWho (verdict_of config line.user line.group) (on_output console.written)
    × Keeps console.written.errors.old console.written.errors.new
AnswersWithoutRequest of_file config line ls console = AnswersLs config console
AnswersWithoutRequest of_file config line (text_path o) console = AnswersTextPath config o console
AnswersWithoutRequest of_file config line (source_path o) console = AnswersSourcePath config o console
AnswersWithoutRequest of_file config line (serve a) console = AnswersServing of_file config line.db a console
AnswersWithoutRequest of_file config line _ console = ⊥

-- what a command line answers by the text of its configuration: what its subcommand asks of a store, or its own answer
abbrev pub AnswersLine : Doing → List ℕ → Line → Console → Type 0
AnswersLine of_file config line console =
    MatchOption (asks line.asked) (AnswersWithoutRequest of_file config line line.asked console)
    (λ ask. AnswersAsking of_file config line ask console)

-- a stop while the configuration is read is printed by `who` on standard output, and else on standard error; the input
-- isn't read
abbrev pub Stops : Asked → Stop → Console → Type 0
Stops who stop console =
    Keeps console.input.old console.input.new × Says stop (on_output console.written)
    × Keeps console.written.errors.old console.written.errors.new
Stops _ stop console = StopsUnread stop console

-- the answer by the text of the configuration, or by why the text couldn't be read
abbrev pub AnswersRead : Doing → Line → Result (List ℕ) Stop → Console → Type 0
AnswersRead of_file line (Ok config) console = AnswersLine of_file config line console
AnswersRead of_file line (Err stop) console = Stops line.asked stop console

-- the answer by the opened configuration file, or by why it wasn't opened
abbrev pub AnswersOpened : Doing → Line → Opened → Console → Type 0
AnswersOpened of_file line opened console =
    (read : Result (List ℕ) Stop) × IsConfig opened read × AnswersRead of_file line read console

-- what running a command line does: it answers by the configuration file that it names, if it names one; or memory ran
-- out while the words were read, and the input wasn't. No contract says what a file holds, or why it can't be opened.
abbrev pub RunsLine : Doing → Line → Console → Type 0
RunsLine of_file line console = StopsUnread (Failed NoMemory) console
    ⊎ ((opened : Opened) × (is_some opened ≡ is_some line.config) × AnswersOpened of_file line opened console)

-- true of the command line that the words form, if they form one
abbrev pub IfLine : List Text → (Line → Type 0) → Type 0
IfLine words holds = (line : Line) → IsLine words line → holds line

-- true if the words form no command line
abbrev pub IfNoLine : List Text → Type 0 → Type 0
IfNoLine words holds = ¬ ((line : Line) × IsLine words line) → holds

-- the fault of the words is that they ask for help or for the version
abbrev pub AsksHelp : CommandError → Type 0
AsksHelp (Usage fault) = (kind_of fault ≡ DisplayHelp) ⊎ (kind_of fault ≡ DisplayVersion)
AsksHelp (Misuse fault) = ⊥
AsksHelp Memory = ⊥

-- a text went to standard output, as an answer does
abbrev pub Helps : Written → Type 0
Helps w = (text : List ℕ) × Answers (Ok text) w

-- what is printed for a fault with a text by `clap`: help, a usage error, or out of memory
abbrev pub ExplainsUsage : Error → Written → Type 0
ExplainsUsage fault w =
    Answers (Err (Failed NoMemory)) w
    ⊎ ((AsksHelp (Usage fault) → Helps w) × (¬ AsksHelp (Usage fault) → RefusesWords w))

-- what is printed for words that aren't a command line, by their fault
abbrev pub Explains : CommandError → Written → Type 0
Explains (Usage fault) w = ExplainsUsage fault w
Explains (Misuse fault) w = RefusesWords w ⊎ Answers (Err (Failed NoMemory)) w
Explains Memory w = Answers (Err (Failed NoMemory)) w
