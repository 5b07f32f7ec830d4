-- The answers that depend on which archive an input is, or on its first fault.
use Rattle.std.specs.Prelude.{ℕ, ◌+◌, List, codes, Result, Ok, Err}
use Rattle.std.specs.Option.{option_map_or}
use Rattle.nar.specs.declared.error.NarError.{NarError}
use Rattle.nar.specs.Tree.{Tree}
use Rattle.nar.specs.Archive.{limit}
use Rattle.nar.specs.Outcome.{outcome_of}
use Rattle.nar.specs.Listing.{listing}
use Rattle.model.specs.Faults.{archive_refusal}
use Rattle.model.specs.declared.failures.Failure.TheVariants.{Memory}
use Rattle.tool_pure.specs.declared.stops.Stop.{Stop}
use Rattle.tool_pure.specs.declared.stops.Stop.TheVariants.{Refused, Failed}

-- how many bytes of an input decide whether it is an archive: 8 more than an archive has at most
abbrev pub max_prefix : ℕ
max_prefix = limit + 8

-- what a fault of an archive ends a command with: its refusal; out of memory, which is no fault of one, as a failure
abbrev pub archive_stop : NarError → Stop
archive_stop fault = option_map_or Refused (archive_refusal fault) (Failed Memory)

-- a text of the tree whose archive was read, or the stop of its fault
abbrev pub by_outcome : Result Tree NarError → (Tree → List ℕ) → Result (List ℕ) Stop
by_outcome (Ok t) text = Ok (text t)
by_outcome (Err e) text = Err (archive_stop e)

-- what `ls` answers to an input
abbrev pub ls_answer : List ℕ → Result (List ℕ) Stop
ls_answer bytes = by_outcome (outcome_of bytes) (listing (codes "."))
