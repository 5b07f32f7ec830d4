-- Trees of files, and the rule of names.
use Rattle.std.specs.Prelude.{ℕ, List, [], Bool, true, not, ◌&&◌, ◌==◌, Option, Some, None, IsTrue, ⊤, codes}
use Rattle.std.specs.Prelude.{slice_index, ◌<◌}
use Rattle.std.specs.List.{list_all}
use Rattle.std.specs.Ordering.{nat_cmp, is_lt}
use Rattle.std.specs.Cmp.Lexicographic.{slice_cmp}
use Rattle.std.specs.Str.{bytes_eq}

-- A file, a link with its target, or a directory.
mutual
  pub data Tree : Type 0 where
    regular : Bool → List ℕ → Tree
    symlink : List ℕ → Tree
    directory : Entries → Tree

  pub data Entries : Type 0 where
    no_entries : Entries
    entry : List ℕ → Tree → Entries → Entries

-- each number is a byte
abbrev pub IsBytes : List ℕ → Type 0
IsBytes bytes = (i : ℕ) → slice_index bytes i < 256

-- not empty, not a dot or two, and without a slash or a zero byte
abbrev pub is_name : List ℕ → Bool
is_name s = not (bytes_eq s []) && not (bytes_eq s (codes ".")) && not (bytes_eq s (codes ".."))
    && list_all (λ b. not (b == 47) && not (b == 0)) s

-- above the last name by bytes, where there is one
abbrev pub rises : Option (List ℕ) → List ℕ → Bool
rises None n = true
rises (Some last) n = is_lt (slice_cmp nat_cmp last n)

-- Names, targets and contents are bytes; names keep the rule, and rise strictly in each directory.
abbrev mutual
  pub IsLegal : Tree → Type 0
  IsLegal (regular executable contents) = IsBytes contents
  IsLegal (symlink target) = IsBytes target
  IsLegal (directory entries) = AreLegal None entries

  pub AreLegal : Option (List ℕ) → Entries → Type 0
  AreLegal last no_entries = ⊤
  AreLegal last (entry n t entries) =
      IsBytes n × IsTrue (is_name n) × IsTrue (rises last n) × IsLegal t × AreLegal (Some n) entries
