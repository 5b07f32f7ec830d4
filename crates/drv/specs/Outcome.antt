-- The recorded outputs of a whole text, or what is wrong with it: as a relation, and as a function on bytes, which
-- needn't be trusted, since a law says that it is the relation.
use Rattle.std.specs.Prelude.{ℕ, ◌&&◌, Bool, true, not, List, [], ◌∷◌, Option, Some, None, Result, Ok, Err}
use Rattle.std.specs.Prelude.{if◌then◌else◌}
use Rattle.std.specs.List.{list_any}
use Rattle.std.specs.Str.{bytes_eq}
use Rattle.drv.specs.declared.error.DrvError.{DrvError}
use Rattle.drv.specs.declared.error.DrvError.TheVariants.{BadDerivation, DoubleOutput, Memory}
use Rattle.drv.specs.Derivation.{recorded, Records, IsBad, SharesName}
use Rattle.drv.specs.Reading.{listed}

-- a fault that the text has: running out of memory is none
abbrev pub IsFault : List ℕ → List ℕ → DrvError → Type 0
IsFault dir text BadDerivation = IsBad dir text
IsFault dir text DoubleOutput = SharesName dir text
IsFault dir text Memory = ⊥

abbrev pub IsOutcome : List ℕ → List ℕ → Result (List (List ℕ × List ℕ)) DrvError → Type 0
IsOutcome dir text (Ok found) = Records dir text found
IsOutcome dir text (Err fault) = IsFault dir text fault

-- whether no two outputs share a name
unfoldable pub have_own_names : List (List ℕ × Option (List ℕ)) → Bool
have_own_names [] = true
have_own_names (x ∷ xs) = not (list_any (λ y. bytes_eq x.0 y.0) xs) && have_own_names xs

abbrev pub answered : Option (List (List ℕ × Option (List ℕ))) → Result (List (List ℕ × List ℕ)) DrvError
answered (Some outputs) = if have_own_names outputs then Ok (recorded outputs) else Err DoubleOutput
answered None = Err BadDerivation

-- the outcome of a text in a store directory
unfoldable pub outputs_of : List ℕ → List ℕ → Result (List (List ℕ × List ℕ)) DrvError
outputs_of dir text = answered (listed dir text)
