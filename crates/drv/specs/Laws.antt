-- Laws of the definitions.
use Rattle.std.specs.Prelude.{◌≡◌, ◌↔◌, ℕ, List, Option, Result}
use Rattle.drv.specs.declared.error.DrvError.{DrvError}
use Rattle.drv.specs.Derivation.{HasOutputs}
use Rattle.drv.specs.Outcome.{IsOutcome, outputs_of}

-- a text has at most one list of outputs
abbrev pub OneList : Type 0
OneList = (dir text : List ℕ) (xs ys : List (List ℕ × Option (List ℕ))) → HasOutputs dir text xs
    → HasOutputs dir text ys → xs ≡ ys

-- a text has one outcome
abbrev pub OneOutcome : Type 0
OneOutcome =
    (dir text : List ℕ) (outcome : Result (List (List ℕ × List ℕ)) DrvError) → IsOutcome dir text outcome
    ↔ (outputs_of dir text ≡ outcome)
