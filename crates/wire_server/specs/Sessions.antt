-- How a connection ended, and what was reported.
use Rattle.std.specs.Prelude.{◌≡◌, ℕ, List, Option, Result, Ok, Err}
use Rattle.std.specs.Io.KnownBytes.{Appends, Keeps}
use Rattle.streams.specs.Sends.{AppendsPrefix}
use Rattle.model.specs.Failures.{failure_line}
use Rattle.model.specs.declared.failures.Failure.{Failure}
use Rattle.model.specs.declared.failures.Failure.TheVariants as failures
use Rattle.wire_server.specs.declared.error.WireError.{WireError}
use Rattle.wire_server.specs.declared.error.WireError.TheVariants.{Read, Write, Memory}
use Rattle.wire_server.specs.declared.connection.End.{End}
use Rattle.wire_server.specs.declared.connection.End.TheVariants.{Served, Reported, Unreported}

-- the failure as which the error of a connection is reported
abbrev pub failure_of : WireError → Failure
failure_of Read = failures.Input
failure_of Write = failures.Output
failure_of Memory = failures.Memory

-- what became of it
abbrev pub result_of : End → Result ℕ WireError
result_of (Served count) = Ok count
result_of (Reported fault) = Err fault
result_of (Unreported fault) = Err fault

-- nothing is reported of a connection that was served to its end; of a failed one its line, or a prefix of the line if
-- the rest couldn't be written
abbrev pub Says : End → Option (List ℕ) → Option (List ℕ) → Type 0
Says (Served count) err err' = Keeps err err'
Says (Reported fault) err err' = Appends err err' (failure_line (failure_of fault))
Says (Unreported fault) err err' = AppendsPrefix err err' (failure_line (failure_of fault))

-- the line of that fault, or a prefix of it
abbrev pub SaysOf : WireError → End → Option (List ℕ) → Option (List ℕ) → Type 0
SaysOf fault end err err' = (result_of end ≡ Err fault) × Says end err err'

-- how many failures an end counts as
abbrev pub failure : End → ℕ
failure (Served count) = 0
failure (Reported fault) = 1
failure (Unreported fault) = 1
