-- The request of a body on the input to a store.
use Rattle.std.specs.Prelude.{◌≡◌, ℕ, List, Result, Ok, Err}
use Rattle.model.specs.World.{Pair}
use Rattle.model.specs.Request as request
use Rattle.model.specs.Request.{Request}
use Rattle.wire_bodies.specs.Bodies.{IsImportBody, IsRuntime, Says}
use Rattle.wire_bodies.specs.declared.import.ImportHead.{ImportHead}
use Rattle.wire_requests.specs.View.{imported}
use Rattle.model.specs.declared.refusal.Refusal.{Refusal}
use Rattle.model.specs.declared.refusal.Refusal.TheVariants.{BadBodyHead}

-- a body passes this object
abbrev pub IsImported : List ℕ → List ℕ → Request → Type 0
IsImported dir body q =
    (head : ImportHead) × (nar : List ℕ) × IsImportBody dir body head nar
    × (q ≡ request.import_object (imported head nar))

-- a body names these runtime roots
abbrev pub IsReplaced : List ℕ → List ℕ → Request → Type 0
IsReplaced dir body q = (named : List Pair) × Says (IsRuntime dir) body named × (q ≡ request.replace_runtime named)

-- the request of a body; or the body isn't one, and is refused
abbrev pub ReadAs : (Request → Type 0) → Result Request Refusal → Type 0
ReadAs says (Ok q) = says q
ReadAs says (Err refusal) = (refusal ≡ BadBodyHead) × ((q : Request) → says q → ⊥)

abbrev pub Imports : List ℕ → List ℕ → Result Request Refusal → Type 0
Imports dir body wanted = ReadAs (IsImported dir body) wanted

abbrev pub Replaces : List ℕ → List ℕ → Result Request Refusal → Type 0
Replaces dir body wanted = ReadAs (IsReplaced dir body) wanted
