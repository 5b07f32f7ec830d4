-- Why a command ends without its result: the line that says so, and the exit status.
use Rattle.std.specs.Prelude.{ℕ, List}
use Rattle.streams.specs.declared.error.ReadError.{ReadError}
use Rattle.streams.specs.declared.error.ReadError.TheVariants as read
use Rattle.model.specs.Failures.{failure_line}
use Rattle.model.specs.Refusals.{refusal_line}
use Rattle.model.specs.declared.failures.Failure.TheVariants.{Input, Memory}
use Rattle.tool_pure.specs.declared.stops.Stop.{Stop}
use Rattle.tool_pure.specs.declared.stops.Stop.TheVariants.{Refused, Failed}

-- the line that says why
abbrev pub stop_text : Stop → List ℕ
stop_text (Refused refusal) = refusal_line refusal
stop_text (Failed failure) = failure_line failure

-- the exit status
abbrev pub stop_status : Stop → ℕ
stop_status (Refused refusal) = 3
stop_status (Failed failure) = 1

-- what standard input that wasn't read ends a command with
abbrev pub stop_by : ReadError → Stop
stop_by read.Input = Failed Input
stop_by read.Memory = Failed Memory
