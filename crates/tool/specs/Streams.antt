-- The streams of a command line, as one value, before a call and after it.
use Rattle.std.specs.Prelude.{◌≡◌, ℕ, List, Option, Err}
use Rattle.std.specs.Io.KnownBytes.{Keeps}
use Rattle.report.specs.Outputs.{Console, console_of}
use Rattle.tool_pure.specs.declared.stops.Stop.{Stop}
use Rattle.tool_pure.specs.Stream.{Answers}
use Rattle.tool.specs.Requests.{AnswersReading}
use Rattle.tool.specs.declared.console.Console.{Console as Streams}

-- what a call read and wrote, and the exit status
abbrev pub happened : {R W E : Type 0} → (R → Option (List ℕ)) → (W → Option (List ℕ)) → (E → Option (List ℕ))
    → Streams R W E → Streams R W E → ℕ → Console
happened input output errors old new status =
    console_of input output errors old.input.now new.input.now old.output.now new.output.now old.errors.now
    new.errors.now status

-- a stop is reported in place of an answer, and nothing of the input was read
abbrev pub StopsUnread : Stop → Console → Type 0
StopsUnread stop console = Keeps console.input.old console.input.new × Answers (Err stop) console.written

-- each stream is the one that it was
abbrev pub SameStreams : {R W E : Type 0} → Streams R W E → Streams R W E → Type 0
SameStreams old new =
    (old.input.ghost_name ≡ new.input.ghost_name) × (old.output.ghost_name ≡ new.output.ghost_name)
    × (old.errors.ghost_name ≡ new.errors.ghost_name)

-- An answer was given on these streams, and no more of the input was read than `most` bytes, if there is such a number.
pub record AnswersOn {R W E : Type 0} (most : Option ℕ) (answers : Console → Type 0) (input : R → Option (List ℕ))
    (output : W → Option (List ℕ)) (errors : E → Option (List ℕ)) (old new : Streams R W E) (status : ℕ)
    : Type 0 where
  pub given : AnswersReading most answers (happened input output errors old new status)
  pub same : SameStreams old new
