-- The root that keeps the first live path of some paths.
use Rattle.std.specs.Prelude.{◌≡◌, ℕ, ◌<◌, List, [], ◌∷◌, length, filter, Option, None}
use Rattle.std.specs.Option.{option_map, option_or}
use Rattle.paths.specs.Root.{Root}
use Rattle.live.specs.Graph.{same}
use Rattle.live.specs.Marks.{Marking, first_of}
use Rattle.live.specs.Numbering.{Row, path_at, paths_of}
use Rattle.model.specs.World.{Path}

-- the value of the first item that has one
abbrev pub first_value : {X Y : Type 0} → (X → Option Y) → List X → Option Y
first_value f [] = None
first_value f (x ∷ xs) = option_or (f x) (first_value f xs)

-- the marks say which root keeps each path: the root at the path's place, or none if no row has the path
pub record AreMarked (rows : List Row) (m : Marking) (root : ℕ → Root) (root_of : Path → Option Root) : Type 0 where
  pub present : (i : ℕ) → i < length rows → root_of (path_at rows i) ≡ option_map root (first_of m i)
  pub nowhere : (p : Path) → filter (same p) (paths_of rows) ≡ [] → root_of p ≡ None
