-- Roots, which keep objects alive: their labels and their order.
use Rattle.std.specs.Prelude.{ℕ, Bool, nat_le, ◌&&◌, List, ◌++◌, length, map, codes, decimal}
use Rattle.std.specs.List.{list_all}
use Rattle.std.specs.declared.cmp.Ordering.{Ordering}
use Rattle.std.specs.Ordering.{on, then_cmp, nat_cmp}
use Rattle.std.specs.Cmp.Lexicographic.{slice_cmp}
use Rattle.std.specs.FinMap as finite
use Rattle.paths.specs.Decimal.{max_session}

-- the order of bytes: that of names, of labels, and of paths by their base names
abbrev pub bytes_cmp : List ℕ → List ℕ → Ordering
bytes_cmp = slice_cmp nat_cmp

-- a finite set, in the order of its keys
abbrev pub Set : {K : Type 0} → (K → K → Ordering) → Type 0
Set R = finite.FinMap R (Unit {0})

-- the set of the items of a list
abbrev pub set_of : {K : Type 0} (R : K → K → Ordering) → List K → Set R
set_of R items = finite.from_entries (map (λ k. (k, tt)) items)

-- ---- roots

-- the kind of a root, by the table that it is in
pub data Kind : Type 0 where
  permanent : Kind
  user : Kind
  profile : Kind
  runtime : Kind
  temporary : Kind

-- a root keeps its target, a store path, and all that the target keeps
pub record Root : Type 0 where
  pub kind : Kind
  pub target : List ℕ
  pub label : List ℕ

-- the place of a kind in the order of kinds
abbrev pub place : Kind → ℕ
place permanent = 0
place user = 1
place profile = 2
place runtime = 3
place temporary = 4

-- the order of roots: by kind, then target, then label
abbrev pub root_cmp : Root → Root → Ordering
root_cmp = then_cmp (on (λ r. place r.kind) nat_cmp)
    (then_cmp (on (λ r. r.target) bytes_cmp) (on (λ r. r.label) bytes_cmp))

-- the roots of a list, each once, in the order of roots
unfoldable pub in_order : List Root → List Root
in_order roots = finite.keys (set_of root_cmp roots)

-- ---- labels

-- the label of a permanent root, by its name
abbrev pub permanent_label : List ℕ → List ℕ
permanent_label name = codes "gcroots/" ++ name

-- the label of a user root, by its owner and its name
abbrev pub user_label : List ℕ → List ℕ → List ℕ
user_label owner name = codes "gcroots/per-user/" ++ owner ++ codes "/" ++ name

-- the label of a generation of a profile, by its owner, its name and the number
abbrev pub generation_label : List ℕ → List ℕ → ℕ → List ℕ
generation_label owner name n =
    codes "profiles/per-user/" ++ owner ++ codes "/" ++ name ++ codes "-" ++ decimal n ++ codes "-link"

-- the label of a temporary root, by the number of its session
abbrev pub temporary_label : ℕ → List ℕ
temporary_label session = codes "{temp:" ++ decimal session ++ codes "}"

-- the number of a session: 1 to 4,194,304
abbrev pub is_session : ℕ → Bool
is_session n = nat_le 1 n && nat_le n max_session

-- a byte of a runtime label: it is printed, and isn't a space
abbrev pub is_label_byte : ℕ → Bool
is_label_byte b = nat_le 33 b && nat_le b 126

-- the label of a runtime root: 1 to 256 such bytes
abbrev pub is_runtime_label : List ℕ → Bool
is_runtime_label label = nat_le 1 (length label) && nat_le (length label) 256 && list_all is_label_byte label
