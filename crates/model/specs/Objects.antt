-- What an object is by its path, its archive and its references.
use Rattle.std.specs.Prelude.{ℕ, if◌then◌else◌, List, Result, Ok, Err}
use Rattle.std.specs.FinMap as finite
use Rattle.paths.specs.StorePath.{is_derivation}
use Rattle.paths.specs.Root.{bytes_cmp}
use Rattle.nar.specs.Tree.{Tree, regular}
use Rattle.nar.specs.Outcome.{outcome_of}
use Rattle.drv.specs.Outcome.{outputs_of}
use Rattle.model.specs.World.{Path}

-- the most references that an object is passed with
abbrev pub most_references : ℕ
most_references = 4096

-- the outputs by name, where there's no fault
abbrev pub outputs_if_sound : {E : Type 0} → Result (List (List ℕ × Path)) E → finite.FinMap bytes_cmp Path
outputs_if_sound (Ok outputs) = finite.from_entries outputs
outputs_if_sound (Err e) = finite.empty

-- the outputs of a regular file with a derivation text
abbrev pub tree_outputs : {E : Type 0} → List ℕ → Result Tree E → finite.FinMap bytes_cmp Path
tree_outputs dir (Ok (regular executable contents)) = outputs_if_sound (outputs_of dir contents)
tree_outputs dir _ = finite.empty

-- the outputs that an object records: those of its derivation text if its name ends in `.drv`, and else none
abbrev pub outputs_at : List ℕ → Path → List ℕ → finite.FinMap bytes_cmp Path
outputs_at dir p nar = if is_derivation p then tree_outputs dir (outcome_of nar) else finite.empty
