-- What is read from an input, and an answer to the two outputs.
use Rattle.std.specs.Prelude.{◌≡◌, ◌⊎◌, ⊤, ℕ, Bool, true, is_none, List, Option, Some, None, Result, Ok, Err, IfErr}
use Rattle.std.specs.Prelude.{IsErrOf, String, string_bytes, option_map}
use Rattle.std.specs.Io.KnownBytes.{Keeps}
use Rattle.std.specs.declared.alloc.Global.{Global}
use Rattle.streams.specs.Reads.{ConsumesAtMost, TakesFewer, TakesSome}
use Rattle.model.specs.declared.refusal.Refusal.{Refusal}
use Rattle.model.specs.declared.failures.Failure.TheVariants.{Memory, Input}
use Rattle.tool_pure.specs.declared.stops.Stop.{Stop}
use Rattle.tool_pure.specs.declared.stops.Stop.TheVariants.{Refused, Failed}
use Rattle.report.specs.Outputs.{Console, Offers, Printed, Prints, Stream, Written, on_errors}
use Rattle.tool_pure.specs.Stop.{stop_text, stop_status}

-- An input was read to a bound. It failed only before the bound, and memory was refused only for bytes that came.
pub record ReadsUpTo {T : Type 0} (most : ℕ) (stream : Stream) (result : Result T Stop) : Type 0 where
  pub err : IfErr result (λ e. (e ≡ Failed Memory) ⊎ (e ≡ Failed Input))
  pub reads : ConsumesAtMost most stream.old stream.new
  pub input : IsErrOf result (Failed Input) → TakesFewer most stream.old stream.new
  pub memory : IsErrOf result (Failed Memory) → TakesSome most stream.old stream.new

-- an input is read to a bound, and not at all if a fault is found before
abbrev pub ReadsFor : Option Refusal → ℕ → Option (List ℕ) → Option (List ℕ) → Type 0
ReadsFor (Some fault) most old new = Keeps old new
ReadsFor None most old new = ConsumesAtMost most old new

-- the line that says why went to the writer
abbrev pub Says : Stop → Printed → Type 0
Says stop p = Prints (stop_text stop) (stop_status stop) p

-- the answer was given, a text to standard output or a stop to standard error; or the writer that it went to failed
abbrev pub Answers : Result (List ℕ) Stop → Written → Type 0
Answers (Ok text) w = Offers text w
Answers (Err stop) w = Keeps w.output.old w.output.new × Says stop (on_errors w)

-- the input may have failed: it is read, to a bound, and fewer bytes came
abbrev pub InputFails : Bool → ℕ → Stream → Type 0
InputFails reads most input = (reads ≡ true) × TakesFewer most input.old input.new

-- memory ran out before an answer was made; or the input failed, where that may be
abbrev pub GivesUp : Type 0 → Written → Type 0
GivesUp fails w = Answers (Err (Failed Memory)) w ⊎ (fails × Answers (Err (Failed Input)) w)

-- what was found, as bytes
abbrev pub result_text : Result (String Global) Stop → Result (List ℕ) Stop
result_text (Ok text) = Ok (string_bytes text)
result_text (Err stop) = Err stop

-- The answer to an input was given: a fault that is there before it is read, or what its bytes say. Those are some
-- bytes, where the input doesn't say them.
abbrev pub AnswersBy : Option Refusal → (List ℕ → Result (List ℕ) Stop) → Option (List ℕ) → Written → Type 0
AnswersBy (Some fault) answer known w = Answers (Err (Refused fault)) w
AnswersBy None answer None w = (bytes : List ℕ) × Answers (answer bytes) w
AnswersBy None answer (Some bytes) w = Answers (answer bytes) w

-- the answer to an input, which is read to a bound, was given; or memory ran out before, or the input failed, which
-- isn't read where a fault is found before
abbrev pub AnswersTo : Option Refusal → ℕ → (List ℕ → Result (List ℕ) Stop) → Console → Type 0
AnswersTo fault most answer c =
    GivesUp (InputFails (is_none fault) most c.input) c.written ⊎ AnswersBy fault answer c.input.old c.written

-- a failed result: out of memory, or of the input, where that may be
abbrev pub IsFailure : Type 0 → Result (List ℕ) Stop → Type 0
IsFailure fails (Err (Failed Memory)) = ⊤
IsFailure fails (Err (Failed Input)) = fails
IsFailure fails _ = ⊥

-- a result by the fault that is there before the input is read, or by what its bytes say: some, where it doesn't say
-- them
abbrev pub IsResultOf : Option Refusal → (List ℕ → Result (List ℕ) Stop) → Option (List ℕ) → Result (List ℕ) Stop
    → Type 0
IsResultOf (Some fault) answer known result = result ≡ Err (Refused fault)
IsResultOf None answer None result = (bytes : List ℕ) × (result ≡ answer bytes)
IsResultOf None answer (Some bytes) result = result ≡ answer bytes

-- A result is that of an input. The input was read to a bound, and not at all if a fault was found before.
pub record IsResultFor (fault : Option Refusal) (most : ℕ) (says : List ℕ → Result (List ℕ) Stop) (input : Stream)
    (result : Result (List ℕ) Stop) : Type 0 where
  pub answer : IsFailure (InputFails (is_none fault) most input) result ⊎ IsResultOf fault says input.old result
  pub reads : ReadsFor fault most input.old input.new

-- The answer to an input was given. The input was read to a bound, and not at all if a fault was found before.
pub record AnswersInput (fault : Option Refusal) (most : ℕ) (says : List ℕ → Result (List ℕ) Stop) (console : Console)
    : Type 0 where
  pub answer : AnswersTo fault most says console
  pub reads : ReadsFor fault most console.input.old console.input.new

-- why arguments are refused: out of memory, or the fault
abbrev pub IsStopBy : Option Refusal → Stop → Type 0
IsStopBy fault stop = (stop ≡ Failed Memory) ⊎ (option_map Refused fault ≡ Some stop)

-- why no answer is made: a fault is found before the input is read, the input failed, or memory ran out
abbrev pub IsStopAt : Option Refusal → ℕ → Stream → Stop → Type 0
IsStopAt fault most input stop =
    IsFailure (InputFails (is_none fault) most input) (Err stop) ⊎ (option_map Refused fault ≡ Some stop)
