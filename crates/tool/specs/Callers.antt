-- The answer to the caller whom a command line names.
use Rattle.std.specs.Prelude.{◌⊎◌, Option, Some, None}
use Rattle.policy.specs.Caller.{Caller}
use Rattle.model.specs.declared.refusal.Refusal.TheVariants.{BadCaller}
use Rattle.report.specs.Outputs.{Console}
use Rattle.model.specs.declared.failures.Failure.TheVariants.{Memory}
use Rattle.tool_pure.specs.declared.stops.Stop.TheVariants.{Refused, Failed}
use Rattle.tool_pure.specs.Who.{caller_by}
use Rattle.tool_words.specs.Line.{Line}
use Rattle.tool.specs.Streams.{StopsUnread}

-- a caller is answered; without a caller the answer is the refusal `BadCaller`, and the input isn't read
abbrev pub AnswersCalled : (Caller → Type 0) → Option Caller → Console → Type 0
AnswersCalled answered None console = StopsUnread (Refused BadCaller) console
AnswersCalled answered (Some c) console = answered c

-- the caller of the names is answered, or refused where they aren't plain; or memory ran out before, and the input
-- isn't read
abbrev pub AnswersNamed : (Caller → Type 0) → Line → Console → Type 0
AnswersNamed answered line console =
    StopsUnread (Failed Memory) console ⊎ AnswersCalled answered (caller_by line.user line.group) console
