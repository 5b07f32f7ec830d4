-- What `who` answers: the class of the caller, and whether it may connect.
use Rattle.std.specs.Prelude.{◌≡◌, ◌⊎◌, ℕ, List, ◌++◌, if◌then◌else◌, codes, Option, Some, None, Result, Ok, Err}
use Rattle.std.specs.Option.{option_map_or}
use Rattle.policy.specs.Settings.{Settings}
use Rattle.policy.specs.Caller.{Caller, caller_of, is_caller}
use Rattle.policy.specs.Class.{class_of}
use Rattle.policy.specs.Rules.{first_broken}
use Rattle.policy.specs.Toml.{config_of}
use Rattle.policy.specs.Words.{class_word}
use Rattle.policy.specs.declared.error.KeyWord.{KeyWord}
use Rattle.policy.specs.Operation.{plain}
use Rattle.policy.specs.declared.kinds.Rule.{Rule}
use Rattle.model.specs.declared.refusal.Refusal.TheVariants.{BadConfig, BadCaller}
use Rattle.model.specs.declared.failures.Failure.TheVariants.{Memory}
use Rattle.tool_pure.specs.declared.stops.Stop.{Stop}
use Rattle.tool_pure.specs.declared.stops.Stop.TheVariants.{Refused, Failed}
use Rattle.tool_pure.specs.declared.verdicts.Verdict.{Verdict}
use Rattle.tool_pure.specs.Stop.{stop_text, stop_status}
use Rattle.report.specs.Outputs.{Printed, Prints}
use Rattle.report.specs.Stops.{plain_denial}
use Rattle.tool_pure.specs.Stream.{Says}

-- the class of a caller, with the first rule that a plain request of theirs breaks
abbrev pub verdict_on : Settings → Caller → Verdict
verdict_on s c = record { class = class_of s c; denial = first_broken (class_of s c) c plain }

-- the caller of these names: one has to be named, and they have to be plain
abbrev pub caller_by : Option (List ℕ) → Option (List ℕ) → Option Caller
caller_by None group = None
caller_by (Some name) group = if is_caller (caller_of name group) then Some (caller_of name group) else None

-- the verdict by the configuration, then the caller
abbrev pub verdict_by : Result Settings KeyWord → Option (List ℕ) → Option (List ℕ) → Result Verdict Stop
verdict_by (Err word) user group = Err (Refused (BadConfig word))
verdict_by (Ok s) user group = option_map_or (λ c. Ok (verdict_on s c)) (caller_by user group) (Err (Refused BadCaller))

-- the verdict on the caller of these names under a configuration text
abbrev pub verdict_of : List ℕ → Option (List ℕ) → Option (List ℕ) → Result Verdict Stop
verdict_of config user group = verdict_by (config_of config) user group

-- whether the caller may connect: yes, or the denial by a rule
abbrev pub connect_text : Option Rule → List ℕ
connect_text None = codes "connect: yes\n"
connect_text (Some rule) = plain_denial rule

-- the exit status of a verdict
abbrev pub denial_status : Option Rule → ℕ
denial_status None = 0
denial_status (Some rule) = 4

-- the two lines of a verdict
abbrev pub verdict_text : Verdict → List ℕ
verdict_text v = codes "class: " ++ class_word v.class ++ codes "\n" ++ connect_text v.denial

-- what `who` prints
abbrev pub who_text : Result Verdict Stop → List ℕ
who_text (Ok verdict) = verdict_text verdict
who_text (Err stop) = stop_text stop

-- the exit status of `who`
abbrev pub who_status : Result Verdict Stop → ℕ
who_status (Ok verdict) = denial_status verdict.denial
who_status (Err stop) = stop_status stop

-- the answer went to the writer and gave its status, or the writer failed; or memory ran out before an answer
-- was made
abbrev pub AnswersWho : Result Verdict Stop → Printed → Type 0
AnswersWho answer p = Prints (who_text answer) (who_status answer) p ⊎ Says (Failed Memory) p

-- why no verdict was found: out of memory, or what the definition says
abbrev pub StopsWho : Result Verdict Stop → Stop → Type 0
StopsWho answer stop = (stop ≡ Failed Memory) ⊎ (answer ≡ Err stop)

-- why a configuration has no settings: out of memory, or its first key word
abbrev pub StopsFor : Result Settings KeyWord → Stop → Type 0
StopsFor outcome stop =
    (stop ≡ Failed Memory) ⊎ ((word : KeyWord) × (outcome ≡ Err word) × (stop ≡ Refused (BadConfig word)))
