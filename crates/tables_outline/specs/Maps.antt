-- Trees as the finite maps and sets that they hold.
use Rattle.std.specs.Prelude.{List, [], ◌∷◌, ℕ, map, Option, Some, None, String, string_bytes}
use Rattle.std.specs.FinMap as finite
use Rattle.std.specs.declared.cmp.Ordering.{Ordering}
use Rattle.std.specs.declared.alloc.Global.{Global}
use Rattle.paths.specs.Root.{Set, set_of}
use Rattle.model.specs.World.{Pair, Temporary}

-- the map of some entries, with keys and values seen as the functions say
abbrev pub seen_map : {K X L Y : Type 0} (R : L → L → Ordering) → (K → L) → (X → Y) → List (K × X) → finite.FinMap R Y
seen_map R key value entries = finite.from_entries (map (λ e. (key e.0, value e.1)) entries)

-- the set of some keys
abbrev pub seen_set : {K L : Type 0} (R : L → L → Ordering) → (K → L) → List K → Set R
seen_set R key keys = set_of R (map key keys)

-- two texts
abbrev pub pair_bytes : String Global × String Global → Pair
pair_bytes p = (string_bytes p.0, string_bytes p.1)

-- a label and a store path
abbrev pub labelled_bytes : String Global × List ℕ → Pair
labelled_bytes p = (string_bytes p.0, p.1)

-- an owner, the number of a session and a store path
abbrev pub temporary_bytes : String Global × ℕ × List ℕ → Temporary
temporary_bytes t = record { owner = string_bytes t.0; session = t.1; path = t.2 }

-- a map, and some entries
abbrev pub put_all : {K X : Type 0} {R : K → K → Ordering} → List (K × X) → finite.FinMap R X → finite.FinMap R X
put_all [] m = m
put_all (e ∷ es) m = put_all es (finite.insert m e.0 e.1)

-- a map in which a key gets back the value that it had, or is removed where it had none
abbrev pub unput : {K X : Type 0} {R : K → K → Ordering} → finite.FinMap R X → K → Option X → finite.FinMap R X
unput m k None = finite.remove m k
unput m k (Some x) = finite.insert m k x
