-- Sets and maps with texts as keys, as the finite maps that contracts see.
use Rattle.std.proofs.Common.{◌≡◌, ℕ, List, [], ◌∷◌, Bool, ◌||◌, true, false, Option, Some, None, cond, map, is_some}
use Rattle.std.proofs.Common.{String, Global, string_bytes, refl, sym, ap, ◌∙◌}
use Rattle.std.specs.Ordering.{nat_cmp, is_eq}
use Rattle.std.specs.Cmp.{eq_by_cmp_equiv}
use Rattle.std.specs.Cmp.Lexicographic.{slice_cmp, nat_list_cmp_total}
use Rattle.std.specs.List.{list_any}
use Rattle.std.specs.Map.{lookup, update}
use Rattle.std.specs.Str.{bytes_eq}
use Rattle.std.specs.BTreeMap.{BTreeMap, get_by_text}
use Rattle.std.specs.BTreeSet.{BTreeSet, contains_text}
use Rattle.std.specs.FinMap.{FinMap, find, get, insert, contains_key, from_entries, get-from_entries, get-insert}
use Rattle.std.specs.FinMap.{same_map, nat_cmp-IsAntisymmetric, slice_cmp-IsAntisymmetric}
use Rattle.std.proofs.lemmas.Map.Text.{is_eq-slice_cmp}
use Rattle.policy.specs.Settings.{Users}

-- whether a key has the bytes q
abbrev pub is_text : List ℕ → String Global → Bool
is_text q k = is_eq (slice_cmp nat_cmp q (string_bytes k))

-- the finite set and map of a tree's keys and entries
abbrev pub set_of : List (String Global) → Users
set_of ks = from_entries (map (λ s. (string_bytes s, tt {0})) ks)

abbrev pub map_of : {X : Type 0} → List (String Global × X) → FinMap (slice_cmp nat_cmp) X
map_of es = from_entries (map (λ e. (string_bytes e.0, e.1)) es)

find-set : (q : List ℕ) (ks : List (String Global))
    → find (slice_cmp nat_cmp) q (map (λ s. (string_bytes s, tt {0})) ks)
    ≡ cond (list_any (is_text q) ks) (Some (tt {0})) None
find-set q [] = refl
find-set q (k ∷ ks) = first (is_text q k) (list_any (is_text q) ks) (find-set q ks)
  where
    first : (b o : Bool) {r : Option (Unit {0})} → r ≡ cond o (Some (tt {0})) None
        → cond b (Some (tt {0})) r ≡ cond (b || o) (Some tt) None
    first true o e = refl
    first false o e = e

find-map : {X : Type 0} (q : List ℕ) (es : List (String Global × X))
    → find (slice_cmp nat_cmp) q (map (λ e. (string_bytes e.0, e.1)) es) ≡ lookup (is_text q) es
find-map q [] = refl
find-map q (e ∷ es) = ap (cond (is_text q e.0) (Some e.1)) (find-map q es)

-- what the set has at a text
pub get-set_of : (q : List ℕ) (ks : List (String Global))
    → get (set_of ks) q ≡ cond (list_any (is_text q) ks) (Some (tt {0})) None
get-set_of q ks = get-from_entries nat_list_cmp_total _ q ∙ find-set q ks

-- what the map has at a text
pub get-map_of : {X : Type 0} (q : List ℕ) (es : List (String Global × X)) → get (map_of es) q ≡ lookup (is_text q) es
get-map_of q es = get-from_entries nat_list_cmp_total _ q ∙ find-map q es

-- two maps of which the second has v at k, and elsewhere what the first has
is_insert : {X : Type 0} (m n : FinMap (slice_cmp nat_cmp) X) (k : List ℕ) (v : X)
    → ((q : List ℕ) → get n q ≡ update bytes_eq (get m) k (Some v) q) → n ≡ insert m k v
is_insert m n k v h = same_map nat_list_cmp_total (slice_cmp-IsAntisymmetric nat_cmp-IsAntisymmetric) _ _ (λ q.
    h q ∙ ap (λ b. cond b (Some v) (get m q))
    (sym (is_eq-slice_cmp k q) ∙ (eq_by_cmp_equiv nat_list_cmp_total).symm k q)
    ∙ sym (get-insert nat_list_cmp_total m k v q))

-- whether the set holds a text
pub contains_key-set_of : (q : List ℕ) (ks : List (String Global))
    → contains_key (set_of ks) q ≡ list_any (is_text q) ks
contains_key-set_of q ks = ap is_some (get-set_of q ks) ∙ present (list_any (is_text q) ks)
  where
    present : (b : Bool) → is_some (cond b (Some (tt {0})) None) ≡ b
    present true = refl
    present false = refl

one_more : (b o : Bool) → cond (cond b true o) (Some (tt {0})) None ≡ cond b (Some tt) (cond o (Some tt) None)
one_more true o = refl
one_more false o = refl

-- a tree's keys with one more, as a set
pub set_of-insert : (s n : BTreeSet (String Global)) (k : List ℕ)
    → ((q : List ℕ) → contains_text n q ≡ cond (bytes_eq k q) true (contains_text s q))
    → set_of n.keys ≡ insert (set_of s.keys) k tt
set_of-insert s n k h = is_insert (set_of s.keys) (set_of n.keys) k tt (λ q.
    get-set_of q n.keys ∙ ap (λ b. cond b (Some tt) None) (h q) ∙ one_more (bytes_eq k q) (contains_text s q)
    ∙ ap (cond (bytes_eq k q) (Some tt)) (sym (get-set_of q s.keys)))

-- a tree's entries with one more, as a map
pub map_of-insert : {X : Type 0} (m n : BTreeMap (String Global) X) (k : List ℕ) (v : X)
    → ((q : List ℕ) → get_by_text n q ≡ update bytes_eq (get_by_text m) k (Some v) q)
    → map_of n.entries ≡ insert (map_of m.entries) k v
map_of-insert m n k v h = is_insert (map_of m.entries) (map_of n.entries) k v (λ q.
    get-map_of q n.entries ∙ h q ∙ ap (cond (bytes_eq k q) (Some v)) (sym (get-map_of q m.entries)))
