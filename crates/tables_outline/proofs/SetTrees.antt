-- Trees as sets: what an insertion makes of them.
use Rattle.std.proofs.Common.{◌≡◌, ℕ, String, string_bytes, List, [], ◌∷◌, map, Bool, true, false, cond, Some, Option}
use Rattle.std.proofs.Common.{refl, sym, ap, ◌∙◌, subst}
use Rattle.std.specs.declared.cmp.Ordering.{Ordering}
use Rattle.std.specs.declared.cmp.Ordering.TheVariants.{Less, Equal, Greater}
use Rattle.std.specs.declared.alloc.Global.{Global}
use Rattle.std.specs.Ordering.{eq_by_cmp, is_eq, match_ordering, nat_cmp, ordering_then}
use Rattle.std.specs.Cmp.{IsTotalOrder, eq_by_cmp_equiv}
use Rattle.std.specs.BTreeSet.{insert_key}
use Rattle.std.specs.FinMap as finite
use Rattle.std.specs.FinMap.Entries.{find as find_entry}
use Rattle.std.specs.List.Sorted.{IsStrictlySortedBy}
use Rattle.paths.specs.Root.{bytes_cmp}
use Rattle.model.specs.World.{temporary_cmp}
use Rattle.tables_outline.specs.Maps.{seen_set, temporary_bytes}
use Rattle.tables_outline.proofs.Trees.{keys_seen}

abbrev pub with_unit : {X : Type 0} → X → X × Unit {0}
with_unit x = (x, tt)

module _ {K L : Type 0} (R : L → L → Ordering) (key : K → L) (o : IsTotalOrder R)
    (same : finite.IsAntisymmetric R) where
  abbrev cmp : K → K → Ordering
  cmp a b = R (key a) (key b)

  abbrev found : L → List K → Option (Unit {0})
  found q keys = find_entry R q (map with_unit (map key keys))

  twice : (a b : Bool) (f : Option (Unit {0})) → a ≡ b → cond b (Some tt) f ≡ cond a (Some tt) (cond b (Some tt) f)
  twice true b f e = ap (λ x. cond x (Some tt) f) (sym e)
  twice false b f e = refl

  turned : (a b : Bool) (f : Option (Unit {0}))
      → cond b (Some tt) (cond a (Some tt) f) ≡ cond a (Some tt) (cond b (Some tt) f)
  turned true true f = refl
  turned true false f = refl
  turned false b f = refl

  tied : (k x : K) (q : L) → cmp k x ≡ Equal → eq_by_cmp R q (key k) ≡ eq_by_cmp R q (key x)
  tied k x q e =
      (eq_by_cmp_equiv o).symm q (key k) ∙ (eq_by_cmp_equiv o).congr (key k) (key x) q (ap is_eq e)
      ∙ (eq_by_cmp_equiv o).symm (key x) q

  found_inserted : (q : L) (keys : List K) (k : K)
      → found q (insert_key cmp keys k) ≡ cond (eq_by_cmp R q (key k)) (Some tt) (found q keys)
  found_inserted q [] k = refl
  found_inserted q (x ∷ xs) k = by (cmp k x) refl (found_inserted q xs k)
    where
      by : (r : Ordering) → cmp k x ≡ r
          → found q (insert_key cmp xs k) ≡ cond (eq_by_cmp R q (key k)) (Some tt) (found q xs)
          → found q (match_ordering r (k ∷ x ∷ xs) (x ∷ xs) (x ∷ insert_key cmp xs k))
          ≡ cond (eq_by_cmp R q (key k)) (Some tt) (cond (eq_by_cmp R q (key x)) (Some tt) (found q xs))
      by Less e later = refl
      by Equal e later = twice (eq_by_cmp R q (key k)) (eq_by_cmp R q (key x)) (found q xs) (tied k x q e)
      by Greater e later =
          ap (cond (eq_by_cmp R q (key x)) (Some tt)) later
          ∙ turned (eq_by_cmp R q (key k)) (eq_by_cmp R q (key x)) (found q xs)

  pub key_inserted : (keys : List K) (k : K)
      → seen_set R key (insert_key cmp keys k) ≡ finite.insert (seen_set R key keys) (key k) tt
  key_inserted keys k = finite.same_map o same _ _ (λ q.
      finite.get-from_entries o (map with_unit (map key (insert_key cmp keys k))) q ∙ found_inserted q keys k
      ∙ sym (finite.get-insert o (seen_set R key keys) (key k) tt q
      ∙ ap (cond (eq_by_cmp R q (key k)) (Some tt)) (finite.get-from_entries o (map with_unit (map key keys)) q)))

map-map : {A B C : Type 0} (f : A → B) (g : B → C) (xs : List A) → map g (map f xs) ≡ map (λ x. g (f x)) xs
map-map f g [] = refl
map-map f g (x ∷ xs) = ap (λ l. g (f x) ∷ l) (map-map f g xs)

firsts : {K : Type 0} (ks : List K) → map (λ (e : K × Unit {0}). e.0) (map with_unit ks) ≡ ks
firsts [] = refl
firsts (k ∷ ks) = ap (λ xs. k ∷ xs) (firsts ks)

-- the keys of a set in their order
pub set_keys : {K L : Type 0} (R : L → L → Ordering) (key : K → L) → IsTotalOrder R → finite.IsAntisymmetric R
    → (keys : List K) → IsStrictlySortedBy (λ a b. R (key a) (key b)) keys
    → finite.keys (seen_set R key keys) ≡ map key keys
set_keys {K} {L} R key o same keys sorted =
    ap (λ (es : List (L × Unit {0})). finite.keys (finite.from_entries {R = R} es))
    (map-map key with_unit keys ∙ sym (map-map with_unit (λ e. (key e.0, e.1)) keys))
    ∙ keys_seen R key (λ u. u) o same (map with_unit keys)
    (subst (λ ks. IsStrictlySortedBy (λ a b. R (key a) (key b)) ks) (sym (firsts keys)) sorted)
    ∙ ap (map key) (firsts keys)

-- ---- the order of temporary roots

pub then_assoc : (a b c : Ordering) → ordering_then (ordering_then a b) c ≡ ordering_then a (ordering_then b c)
then_assoc Less b c = refl
then_assoc Equal b c = refl
then_assoc Greater b c = refl

abbrev pub SessionEntry : Type 0
SessionEntry = String Global × ℕ × List ℕ

-- the order of tuples is that of what they are seen as
pub temporary_sorted : (keys : List SessionEntry)
    → IsStrictlySortedBy (λ a b. ordering_then
    (ordering_then (bytes_cmp (string_bytes a.0) (string_bytes b.0)) (nat_cmp a.1 b.1)) (bytes_cmp a.2 b.2)) keys
    → IsStrictlySortedBy (λ (a b : SessionEntry). temporary_cmp (temporary_bytes a) (temporary_bytes b)) keys
temporary_sorted keys h =
    let same : (λ (a b : SessionEntry). ordering_then
    (ordering_then (bytes_cmp (string_bytes a.0) (string_bytes b.0)) (nat_cmp a.1 b.1)) (bytes_cmp a.2 b.2))
    ≡ (λ (a b : SessionEntry). temporary_cmp (temporary_bytes a) (temporary_bytes b)) =
    λ i a b. then_assoc (bytes_cmp (string_bytes a.0) (string_bytes b.0)) (nat_cmp a.1 b.1) (bytes_cmp a.2 b.2) i in
    subst (λ (R : SessionEntry → SessionEntry → Ordering). IsStrictlySortedBy R keys) same h
