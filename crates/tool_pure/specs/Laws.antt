-- What follows from the definitions: each is the contract of a function of `src/laws.rt`.
use Rattle.std.specs.Prelude.{◌≡◌, ℕ, List, Option, None, Ok, Err}
use Rattle.policy.specs.Settings.{Settings}
use Rattle.model.specs.declared.refusal.Refusal.TheVariants.{BadCaller}
use Rattle.tool_pure.specs.declared.stops.Stop.TheVariants.{Refused}
use Rattle.tool_pure.specs.Who.{caller_by, verdict_by}

-- without the name of a user there is no caller
abbrev pub NoUserIsNoCaller : Type 0
NoUserIsNoCaller = (group : Option (List ℕ)) → caller_by None group ≡ None

-- so such a command is refused, under any settings
abbrev pub UnnamedIsRefused : Type 0
UnnamedIsRefused = (s : Settings) (group : Option (List ℕ)) → verdict_by (Ok s) None group ≡ Err (Refused BadCaller)
