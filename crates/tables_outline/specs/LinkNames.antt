-- Paths by their numbers.
use Rattle.std.specs.Prelude.{◌≡◌, ℕ, ◌<◌, if◌then◌else◌, List, [], ◌∷◌, ◌++◌, length, Some, is_some}
use Rattle.std.specs.List.{slice_index_or}
use Rattle.std.specs.Map.{lookup}
use Rattle.std.specs.Ordering.{eq_by_cmp}
use Rattle.paths.specs.Root.{bytes_cmp}
use Rattle.live.specs.Graph.{Path}
use Rattle.live.specs.Numbering.{place_of}

-- the path of a number
abbrev pub name_at : List Path → ℕ → Path
name_at names i = slice_index_or names i []

-- names, in which a path is the last if it wasn't one of them
abbrev pub with_name : List Path → Path → List Path
with_name names p = if is_some (place_of names p) then names else names ++ p ∷ []

-- each path has one number
pub record AreDistinct (names : List Path) : Type 0 where
  pub each : (i : ℕ) → i < length names → place_of names (name_at names i) ≡ Some i

-- the entries of a tree are the numbers of the paths
pub record AreNumbered (entries : List (Path × ℕ)) (names : List Path) : Type 0 where
  pub found : (p : Path) → lookup (λ q. eq_by_cmp bytes_cmp p q) entries ≡ place_of names p
  pub distinct : AreDistinct names
