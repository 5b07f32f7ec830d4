-- How far a checker has come.
use Rattle.std.specs.Prelude.{◌≡◌, List, ℕ, ◌++◌, Option, Some, None}
use Rattle.nar.specs.declared.progress.Progress.{Progress}
use Rattle.nar.specs.declared.count.Count.{Count}
use Rattle.nar.specs.Feeding.{IsReachedBy}

-- The bytes were received, and are good so far.
abbrev pub HasRead : Progress → List ℕ → Type 0
HasRead p bytes = IsReachedBy p.count p.nest p.room p.held.items bytes

-- The bytes were consumed up to the rest.
pub record HasReadBefore (p : Progress) (rest all : List ℕ) : Type 0 where
  pub consumed : List ℕ
  pub is : all ≡ consumed ++ rest
  pub has_read : HasRead p consumed

-- how many steps the checker may take without a byte: one, if a string is counted
abbrev pub turns_by : Option Count → ℕ
turns_by None = 0
turns_by (Some k) = 1

abbrev pub turns : Progress → ℕ
turns p = turns_by p.count
