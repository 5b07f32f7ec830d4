-- The outputs of an object, as lists.
use Rattle.std.specs.Prelude.{◌≡◌, ℕ, List, length, IsTrue}
use Rattle.std.specs.List.{zip}
use Rattle.std.specs.FinMap as finite
use Rattle.paths.specs.Root.{bytes_cmp}
use Rattle.model.specs.World.{Path}
use Rattle.tables_outline.specs.Outline.{rise}

-- names in order, each with its path, are those of a map
pub record IsListed (names : List (List ℕ)) (paths : List Path) (m : finite.FinMap bytes_cmp Path) : Type 0 where
  pub in_order : IsTrue (rise names)
  pub as_many : length paths ≡ length names
  pub all : finite.from_entries (zip names paths) ≡ m
