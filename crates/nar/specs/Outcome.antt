-- The tree of which the bytes are the archive, or their fault, as a function. It needn't be trusted: the laws say that
-- it agrees with `IsArchive` and `IsFault`.
use Rattle.std.specs.Prelude.{ℕ, zero, suc, ◌-◌, List, [], ◌∷◌, ◌++◌, length, map, drop, true, false, Result, Ok, Err}
use Rattle.std.specs.Prelude.{codes, unwrap_or, if◌then◌else◌, slice_index_or}
use Rattle.std.specs.Str.{bytes_eq}
use Rattle.nar.specs.declared.error.NarError.{NarError}
use Rattle.nar.specs.declared.error.NarError.TheVariants.{Truncated, Trailing}
use Rattle.nar.specs.String.{string_at, size_of}
use Rattle.nar.specs.Tree.{Tree, regular, symlink, directory, Entries, no_entries, entry}
use Rattle.nar.specs.Archive.{Part, spelled, limit}
use Rattle.nar.specs.Steps.{Symbol, consumed, start, check}

-- the answer of a step, after the one before it
abbrev pub and_then : {A B : Type 0} → Result A NarError → (A → Result B NarError) → Result B NarError
and_then (Ok x) f = f x
and_then (Err e) f = Err e

-- the parts that the bytes spell where these symbols are to come, or the fault; a step for each string
abbrev pub parts_from : ℕ → List Symbol → ℕ → List ℕ → Result (List Part) NarError
parts_from steps [] room [] = Ok []
parts_from steps [] room (b ∷ bytes) = Err Trailing
parts_from zero (x ∷ κ) room bytes = Err Truncated
parts_from (suc steps) (x ∷ κ) room bytes =
    and_then (string_at room bytes) (λ next.
    and_then (check x next.0) (λ p.
    and_then (parts_from steps (unwrap_or (consumed x p) [] ++ κ) (room - size_of (length next.0)) next.1)
    (λ ps. Ok (p ∷ ps))))

-- the string of the part at this place
abbrev pub at : ℕ → List Part → List ℕ
at i ps = slice_index_or (map spelled ps) i []

-- the tree whose parts these are, from the word of its kind on, and what follows the bracket that closes it
abbrev mutual
  pub kind_from : ℕ → List Part → Tree × List Part
  kind_from zero ps = (symlink [], [])
  kind_from (suc steps) ps =
      if bytes_eq (at 0 ps) (codes "directory")
      then (let inner = entries_from steps (drop 1 ps) in (directory inner.0, inner.1))
      else (if bytes_eq (at 0 ps) (codes "symlink") then (symlink (at 2 ps), drop 4 ps)
      else (if bytes_eq (at 1 ps) (codes "executable") then (regular true (at 4 ps), drop 6 ps)
      else (regular false (at 2 ps), drop 4 ps)))

  pub entries_from : ℕ → List Part → Entries × List Part
  entries_from zero ps = (no_entries, [])
  entries_from (suc steps) ps =
      if bytes_eq (at 0 ps) (codes ")") then (no_entries, drop 1 ps)
      else (let node = kind_from steps (drop 7 ps) in
      let more = entries_from steps (drop 1 node.1) in
      (entry (at 3 ps) node.0 more.0, more.1))

-- the tree whose archive the parts are
abbrev pub tree_from : List Part → Tree
tree_from ps = (kind_from (length ps) (drop 3 ps)).0

-- The tree whose archive the bytes are, or what is wrong with them.
unfoldable pub outcome_of : List ℕ → Result Tree NarError
outcome_of bytes = and_then (parts_from (length bytes) start limit bytes) (λ ps. Ok (tree_from ps))
