-- What a checker of pieces answers, by the bytes that it was fed.
use Rattle.std.specs.Prelude.{◌≡◌, ◌≢◌, ℕ, List, Option, Some, None, Result, Ok, Err}
use Rattle.nar.specs.declared.error.NarError.{NarError}
use Rattle.nar.specs.declared.error.NarError.TheVariants.{Truncated}
use Rattle.nar.specs.declared.checker.Checker.{Checker}
use Rattle.nar.specs.declared.progress.Progress.{Progress}
use Rattle.nar.specs.Tree.{Tree, IsBytes}
use Rattle.nar.specs.Archive.{IsArchive}
use Rattle.nar.specs.Fault.{IsFault}
use Rattle.nar.specs.Answer.{IfFault}
use Rattle.nar.specs.Progress.{HasRead}

-- what the checker knows of the bytes: good so far, or the fault that it returned
abbrev pub Knows : Option NarError → Progress → List ℕ → Type 0
Knows None progress bytes = HasRead progress bytes
Knows (Some e) progress bytes = IfFault e (λ f. IsFault bytes f × (f ≢ Truncated))

-- The checker has been fed these bytes.
pub record HasBeenFed (checker : Checker) (bytes : List ℕ) : Type 0 where
  pub are_bytes : IsBytes bytes
  pub knows : Knows checker.failed checker.progress bytes

-- The checker has answered this error.
pub record HasFailed (checker : Checker) (error : NarError) : Type 0 where
  pub is : checker.failed ≡ Some error

-- what a checker that has been fed these bytes answers at their end
abbrev pub Ends : Result (Unit {0}) NarError → List ℕ → Type 0
Ends (Ok x) bytes = (t : Tree) × IsArchive t bytes
Ends (Err e) bytes = IfFault e (IsFault bytes)
