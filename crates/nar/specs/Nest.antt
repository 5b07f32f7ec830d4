-- Where in an archive a checker is, as the symbols that are to come.
use Rattle.std.specs.Prelude.{◌≡◌, ℕ, ◌+◌, List, [], ◌∷◌, ◌++◌, length, Option, Some, None, Result, Ok, Err, codes, ⊤}
use Rattle.std.specs.Prelude.{Bool, true, false, nat_lt}
use Rattle.nar.specs.declared.error.NarError.{NarError}
use Rattle.nar.specs.declared.error.NarError.TheVariants.{BadTag, Trailing}
use Rattle.nar.specs.declared.nest.Phase.{Phase}
use Rattle.nar.specs.declared.nest.Phase.TheVariants as phases
use Rattle.nar.specs.Archive.{Part}
use Rattle.nar.specs.Steps.{Symbol, word, any, kind, file, entries, entry_name, node_word, consumed, check}

-- the symbols after the names of the open entries, the innermost first: each entry is closed, and its directory
-- continues
abbrev pub under : List (List ℕ) → List Symbol
under [] = []
under (n ∷ names) = word (codes ")") ∷ entries (length names + 1) (Some n) ∷ under names

abbrev pub symbols : Phase → Option (List ℕ) → List (List ℕ) → List Symbol
symbols phases.Magic last names =
    word (codes "nix-archive-1") ∷ word (codes "(") ∷ word (codes "type") ∷ kind (length names + 1) ∷ under names
symbols phases.Open last names = word (codes "(") ∷ word (codes "type") ∷ kind (length names + 1) ∷ under names
symbols phases.Type last names = word (codes "type") ∷ kind (length names + 1) ∷ under names
symbols phases.Kind last names = kind (length names + 1) ∷ under names
symbols phases.File last names = file ∷ under names
symbols phases.Empty last names = word [] ∷ word (codes "contents") ∷ any ∷ word (codes ")") ∷ under names
symbols phases.Contents last names = word (codes "contents") ∷ any ∷ word (codes ")") ∷ under names
symbols phases.Target last names = word (codes "target") ∷ any ∷ word (codes ")") ∷ under names
symbols phases.Data last names = any ∷ word (codes ")") ∷ under names
symbols phases.Close last names = word (codes ")") ∷ under names
symbols phases.Entries last names = entries (length names + 1) last ∷ under names
symbols phases.EntryOpen last names =
    word (codes "(") ∷ word (codes "name") ∷ entry_name (length names + 1) last ∷ under names
symbols phases.NameWord last names = word (codes "name") ∷ entry_name (length names + 1) last ∷ under names
symbols phases.Name last names = entry_name (length names + 1) last ∷ under names
symbols phases.NodeWord last names =
    node_word (length names + 1) ∷ word (codes "(") ∷ word (codes "type") ∷ kind (length names + 1) ∷ under names
symbols phases.Under last names = under names

-- whether a string of this length is counted there and not stored: contents and targets, and what is longer than each
-- fixed string
abbrev pub is_counted : Phase → ℕ → Bool
is_counted phases.Data len = true
is_counted phases.Name len = false
is_counted _ len = nat_lt 13 len

-- what is to come after a string
abbrev pub left_by : List Symbol → Option (List Symbol) → Result (List Symbol) NarError
left_by κ None = Err BadTag
left_by κ (Some σ) = Ok (σ ++ κ)

abbrev pub left_at : Symbol → List Symbol → Result Part NarError → Result (List Symbol) NarError
left_at x κ (Ok p) = left_by κ (consumed x p)
left_at x κ (Err f) = Err f

abbrev pub next : List Symbol → List ℕ → Result (List Symbol) NarError
next [] s = Err Trailing
next (x ∷ κ) s = left_at x κ (check x s)

-- neither a name is entered nor left, nor is a directory begun
abbrev pub AwaitsKeyword : Phase → Type 0
AwaitsKeyword phases.Kind = ⊥
AwaitsKeyword phases.Name = ⊥
AwaitsKeyword phases.Under = ⊥
AwaitsKeyword _ = ⊤

-- the phase that follows means what is to come, or the fault is the one
abbrev pub Continues : Result (List Symbol) NarError → Result Phase NarError → Option (List ℕ) → List (List ℕ) → Type 0
Continues r (Ok phase) last names = r ≡ Ok (symbols phase last names)
Continues r (Err f) last names = r ≡ Err f
