-- Base names of store paths, and the path texts that name them.
use Rattle.std.specs.Prelude.{ℕ, ◌+◌, ◌==◌, ◌&&◌, nat_eq, nat_le, Bool, if◌then◌else◌, List, ◌++◌, length, take, drop}
use Rattle.std.specs.Prelude.{slice_index, codes}
use Rattle.std.specs.List as lists
use Rattle.paths.specs.Names.{is_store_name, begins}
use Rattle.paths.specs.Base32.{all_digits}

-- a base name: 32 digits of base 32, `-`, a store name
abbrev pub is_base_name : List ℕ → Bool
is_base_name text =
    nat_le 34 (length text) && all_digits (take 32 text) && (slice_index text 32 == 45) && is_store_name (drop 33 text)

-- the name in a base name
abbrev pub name_of : List ℕ → List ℕ
name_of base = drop 33 base

-- the path of a derivation: its name ends in `.drv`
abbrev pub is_derivation : List ℕ → Bool
is_derivation base = lists.ends_with nat_eq base (codes ".drv")

-- the full path of a base name in a store directory
abbrev pub full_path : List ℕ → List ℕ → List ℕ
full_path dir base = dir ++ codes "/" ++ base

-- the part of a path text below a store directory, or all of it if it isn't below
abbrev pub base_of : List ℕ → List ℕ → List ℕ
base_of dir text = if begins text (dir ++ codes "/") then drop (length dir + 1) text else text
