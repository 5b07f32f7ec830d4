-- What a command does to its streams, with an exit status.
use Rattle.std.specs.Prelude.{◌≡◌, ◌⊎◌, ℕ, List, Option}
use Rattle.std.specs.Io.KnownBytes.{Appends, Keeps}
use Rattle.streams.specs.Sends.{AppendsPrefix}
use Rattle.model.specs.declared.failures.Failure.{Failure}
use Rattle.model.specs.declared.failures.Failure.TheVariants.{Memory, Output}
use Rattle.model.specs.Failures.{failure_line}

-- a stream before a call and after it: the bytes that a reader has left, or those that a writer was given, if the
-- stream states them
pub record Stream : Type 0 where
  pub old : Option (List ℕ)
  pub new : Option (List ℕ)

-- the stream of a reader or of a writer, by the bytes that it states
abbrev pub change_of : {A : Type 0} → (A → Option (List ℕ)) → A → A → Stream
change_of bytes old new = record { old = bytes old; new = bytes new }

-- what one writer was given, and the exit status
pub record Printed : Type 0 where
  pub writer : Stream
  pub status : ℕ

-- what one writer was given, by the bytes that it states before and after
abbrev pub on_writer : Option (List ℕ) → Option (List ℕ) → ℕ → Printed
on_writer old new status = record { writer = record { old = old; new = new }; status = status }

-- what one writer was given, by the writer before and after
abbrev pub printed_of : {W : Type 0} → (W → Option (List ℕ)) → W → W → ℕ → Printed
printed_of bytes old new status = record { writer = change_of bytes old new; status = status }

-- what standard output and standard error were given, and the exit status
pub record Written : Type 0 where
  pub output : Stream
  pub errors : Stream
  pub status : ℕ

-- what two writers were given, by the writers before and after
abbrev pub written_of : {W E : Type 0} → (W → Option (List ℕ)) → (E → Option (List ℕ)) → W → W → E → E → ℕ → Written
written_of output errors to to' says says' status =
    record { output = change_of output to to'; errors = change_of errors says says'; status = status }

-- what a command read of its standard input, and what it wrote
pub record Console : Type 0 where
  pub input : Stream
  pub written : Written

-- what a command read and wrote, by its reader and two writers before and after
abbrev pub console_of : {R W E : Type 0} → (R → Option (List ℕ)) → (W → Option (List ℕ)) → (E → Option (List ℕ))
    → R → R → W → W → E → E → ℕ → Console
console_of input output errors from from' to to' says says' status = record {
  input = change_of input from from';
  written = written_of output errors to to' says says' status;
}

abbrev pub on_output : Written → Printed
on_output w = record { writer = w.output; status = w.status }

abbrev pub on_errors : Written → Printed
on_errors w = record { writer = w.errors; status = w.status }

-- a text was written whole, with this status; or the writer failed: it got a prefix, with status 1
abbrev pub Prints : List ℕ → ℕ → Printed → Type 0
Prints text done p = ((p.status ≡ done) × Appends p.writer.old p.writer.new text)
    ⊎ ((p.status ≡ 1) × AppendsPrefix p.writer.old p.writer.new text)

-- the line of a failure was written, with status 1
abbrev pub PrintsFailure : Failure → Printed → Type 0
PrintsFailure failure p = Prints (failure_line failure) 1 p

-- a text went to standard output and nothing to standard error, with status 0
pub record Gives (text : List ℕ) (w : Written) : Type 0 where
  pub done : w.status ≡ 0
  pub printed : Appends w.output.old w.output.new text
  pub silent : Keeps w.errors.old w.errors.new

-- standard output failed: it holds a prefix of the text, and standard error has a line on that
pub record GivesOut (text : List ℕ) (w : Written) : Type 0 where
  pub prefix : AppendsPrefix w.output.old w.output.new text
  pub reported : PrintsFailure Output (on_errors w)

-- a text was given to standard output, which took it or failed
abbrev pub Offers : List ℕ → Written → Type 0
Offers text w = Gives text w ⊎ GivesOut text w

-- memory ran out for a text, and standard error has a line on that
abbrev pub RunsOutOfMemory : Written → Type 0
RunsOutOfMemory w = Keeps w.output.old w.output.new × PrintsFailure Memory (on_errors w)
