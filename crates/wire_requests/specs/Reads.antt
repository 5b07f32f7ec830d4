-- The request that is read from a message, or why none is.
use Rattle.std.specs.Prelude.{◌≡◌, ℕ, Bool, true, false, List, Some, Result, Ok, Err, IfOk, is_some, ⊤}
use Rattle.paths.specs.StorePath.{is_base_name}
use Rattle.wire_requests.specs.declared.kind.Kind.{Kind}
use Rattle.model.specs.Request as asked
use Rattle.wire_requests.specs.declared.error.AskError.{AskError}
use Rattle.wire_requests.specs.declared.error.AskError.TheVariants.{BadPath, BadBodyHead, Memory}
use Rattle.store_types.specs.declared.requests.Request.{Request}
use Rattle.store_types.specs.View.{request_view}
use Rattle.wire_bodies.specs.Bodies.{IsImportBody}
use Rattle.wire_bodies.specs.declared.error.BodyError.{BodyError}
use Rattle.wire_bodies.specs.declared.error.BodyError.TheVariants as bodies
use Rattle.wire_bodies.specs.declared.import.ImportHead.{ImportHead}
use Rattle.wire_requests.specs.View.{imported}
use Rattle.wire_requests.specs.Kept.{IsRequest}
use Rattle.wire_requests.specs.Parameters.{AreParameters}
use Rattle.wire_requests.specs.declared.parameters.Parameters.{Parameters}
use Rattle.wire_requests.specs.Asks.{is_blank, by_target, Asks, has_bad_path}

-- why a message isn't a request: a path in the target is tested before the body
abbrev pub AsksNothing : List ℕ → Kind → List ℕ → List ℕ → AskError → Type 0
AsksNothing dir kind target body BadPath = has_bad_path kind target ≡ true
AsksNothing dir kind target body BadBodyHead =
    (has_bad_path kind target ≡ false) × ((q : asked.Request) → Asks dir kind target body q → ⊥)
AsksNothing dir kind target body Memory = ⊤

-- what is asked, or why nothing is
abbrev pub Reads : List ℕ → Kind → List ℕ → List ℕ → Result Request AskError → Type 0
Reads dir kind target body (Ok q) = Asks dir kind target body (request_view q)
Reads dir kind target body (Err e) = AsksNothing dir kind target body e

-- what is made of what is kept of a body, or why nothing is
abbrev pub Makes : List ℕ → Kind → List ℕ → List ℕ → Result Request AskError → Type 0
Makes dir kind target body (Ok made) = (q : asked.Request) × Asks dir kind target body q × IsRequest made q
Makes dir kind target body (Err e) = AsksNothing dir kind target body e

-- what is read by the parameters of a kind: that of each target that has them
abbrev pub ReadsBy : List ℕ → Kind → Parameters → List ℕ → Result Request AskError → Type 0
ReadsBy dir kind parameters body result =
    (target : List ℕ) → AreParameters kind target parameters → Reads dir kind target body result

-- The request of a body of an import: one that the body is, or none only if the body is no import.
pub record ReadsImport (dir body : List ℕ) (result : Result Request BodyError) : Type 0 where
  pub ok : IfOk result (λ q. (head : ImportHead) × (nar : List ℕ) × IsImportBody dir body head nar
      × (request_view q ≡ asked.import_object (imported head nar)))
  pub bad : result ≡ Err bodies.BadBodyHead → (head : ImportHead) (nar : List ℕ) → IsImportBody dir body head nar → ⊥

-- What is made of what is kept of the body of an import.
pub record MakesImport (dir body : List ℕ) (result : Result Request BodyError) : Type 0 where
  pub ok : IfOk result (λ made. (head : ImportHead) × (nar : List ℕ) × IsImportBody dir body head nar
      × IsRequest made (asked.import_object (imported head nar)))
  pub bad : result ≡ Err bodies.BadBodyHead → (head : ImportHead) (nar : List ℕ) → IsImportBody dir body head nar → ⊥

-- ---- inside the crate

-- the request of a target, where the body has to be blank; of a kind that its target doesn't say whole, `Memory` alone
abbrev pub ReadsTarget : Kind → List ℕ → Bool → Result Request AskError → Type 0
ReadsTarget kind target blank (Ok q) = (blank ≡ true) × (by_target kind target ≡ Some (request_view q))
ReadsTarget kind target blank (Err BadPath) = ⊥
ReadsTarget kind target blank (Err BadBodyHead) = (blank ≡ false) × (is_some (by_target kind target) ≡ true)
ReadsTarget kind target blank (Err Memory) = ⊤

-- the path that a base name in the target names, where the body has to be blank
abbrev pub ReadsPath : List ℕ → Bool → Result (List ℕ) AskError → Type 0
ReadsPath base blank (Ok p) = (is_base_name base ≡ true) × (blank ≡ true) × (p ≡ base)
ReadsPath base blank (Err BadPath) = is_base_name (base) ≡ false
ReadsPath base blank (Err BadBodyHead) = (is_base_name base ≡ true) × (blank ≡ false)
ReadsPath base blank (Err Memory) = ⊤

-- what is read of a body of which no more is known than whether it is blank
abbrev pub ReadsBare : Kind → Parameters → Bool → Result Request AskError → Type 0
ReadsBare kind parameters blank result =
    (dir body : List ℕ) → is_blank body ≡ blank → ReadsBy dir kind parameters body result
