-- Outputs as contracts see them.
use Rattle.std.specs.Prelude.{ℕ, List, map, Option, String, string_bytes}
use Rattle.drv.specs.declared.output.Output.{Output}

-- the name, and the base name of the path
abbrev pub view : Output → List ℕ × Option (List ℕ)
view o = (string_bytes o.name, o.path)

abbrev pub views : List Output → List (List ℕ × Option (List ℕ))
views os = map view os

-- recorded outputs, each with its name and its path
abbrev pub pairs : {Z : Type 0} → List (String Z × List ℕ) → List (List ℕ × List ℕ)
pairs found = map (λ x. (string_bytes x.0, x.1)) found
