-- The order of pairs, and the list that a set is read as.
use Rattle.std.proofs.Common.{◌≡◌, ◌+◌, ◌<◌, Bool, true, false, List, [], ◌∷◌, length, map, refl, sym, ap, ◌∙◌, arith}
use Rattle.std.proofs.Common.{◌&&◌, cond, Some, None, Option, inl, inr}
use Rattle.std.specs.declared.cmp.Ordering.{Ordering}
use Rattle.std.specs.declared.cmp.Ordering.TheVariants.{Less, Equal, Greater}
use Rattle.std.specs.Ordering.{on, then_cmp, is_lt, is_eq, ordering_then, ordering_reverse}
use Rattle.std.specs.Cmp.{IsTotalOrder, then_total, on_total, int_cmp_total}
use Rattle.std.specs.Cmp.Lexicographic.{on_texts, nat_list_cmp_total}
use Rattle.std.specs.FinMap.Entries.{is_sorted, below_all, find}
use Rattle.std.specs.FinMap as finite
use Rattle.std.specs.List.{AllByRecursion, AllAdjacentBelow}
use Rattle.std.proofs.lemmas.Map.Keys.{sorted_from_all_adjacent}
use Rattle.std.proofs.Math.ListN.{get_or-map}
use Rattle.std.proofs.lemmas.List.{length-map}
use Rattle.std.specs.List.Sorted.{IsStrictlySortedBy}
use Rattle.sqlite_rules.specs.Lists.{Has}
use lib.Dec.{T}
use Rattle.tables_sql.specs.Contents.{Triple, Numbered, SessionPath, texts_cmp, pair_cmp, triple_cmp, numbered_cmp}
use Rattle.tables_sql.specs.Contents.{session_path_cmp}

both_true : (a b : Bool) → T a → T b → T (a && b)
both_true true b h g = g
both_true false b h g = h

pub pair_total : IsTotalOrder pair_cmp
pair_total = then_total (on_texts (λ p. p.0)) (on_texts (λ p. p.1))

pub texts_total : IsTotalOrder texts_cmp
texts_total = nat_list_cmp_total

pub texts_antisymmetric : finite.IsAntisymmetric texts_cmp
texts_antisymmetric = finite.slice_cmp-IsAntisymmetric finite.nat_cmp-IsAntisymmetric

first_equal : (r s : Ordering) → ordering_then r s ≡ Equal → (r ≡ Equal) × (s ≡ Equal)
first_equal Less s e = cc
first_equal Equal s e = (refl, e)
first_equal Greater s e = cc

-- pairs and triples that are compared part by part
two_antisymmetric : {A B : Type 0} {R : A → A → Ordering} {S : B → B → Ordering} → finite.IsAntisymmetric R
    → finite.IsAntisymmetric S → finite.IsAntisymmetric {K = A × B} (then_cmp (on (λ p. p.0) R) (on (λ p. p.1) S))
two_antisymmetric r s x y e = let both = first_equal _ _ e in λ i. (r x.0 y.0 both.0 i, s x.1 y.1 both.1 i)

three_antisymmetric : {A B C : Type 0} {R : A → A → Ordering} {S : B → B → Ordering} {Q : C → C → Ordering}
    → finite.IsAntisymmetric R → finite.IsAntisymmetric S → finite.IsAntisymmetric Q
    → finite.IsAntisymmetric {K = A × B × C} (then_cmp (on (λ t. t.0) R) (then_cmp (on (λ t. t.1) S) (on (λ t. t.2) Q)))
three_antisymmetric r s q x y e =
    let first = first_equal _ _ e in
    let rest = first_equal _ _ first.1 in
    λ i. (r x.0 y.0 first.0 i, s x.1 y.1 rest.0 i, q x.2 y.2 rest.1 i)

pub pair_antisymmetric : finite.IsAntisymmetric pair_cmp
pair_antisymmetric = two_antisymmetric texts_antisymmetric texts_antisymmetric

-- ---- a map that is made of a list, and its entries in order
module _ {K X : Type 0} {R : K → K → Ordering} (o : IsTotalOrder R) (same : finite.IsAntisymmetric R) where
  below_each : (x : K) (es : List (K × X)) → AllByRecursion (λ y. R x y ≡ Less) (map (λ e. e.0) es)
      → T (below_all R x es)
  below_each x [] h = tt
  below_each x (e ∷ es) h = rw h.0 (below_each x es h.1)

  sorted_entries : (es : List (K × X)) → IsStrictlySortedBy R (map (λ e. e.0) es) → T (is_sorted R es)
  unfolding IsStrictlySortedBy
  sorted_entries [] h = tt
  sorted_entries (e ∷ es) h = both_true _ _ (below_each e.0 es h.0) (sorted_entries es h.1)

  pub found_has : (q : K) (es : List (K × X)) (v : X) → find R q es ≡ Some v → (k : K) × (R q k ≡ Equal) × Has es (k, v)
  found_has q [] v h = absurd (let e = h in cc)
  found_has q (e ∷ es) v h = go (R q e.0) refl h (found_has q es v)
    where
      go : (r : Ordering) → R q e.0 ≡ r → cond (is_eq r) (Some e.1) (find R q es) ≡ Some v
          → (find R q es ≡ Some v → (k : K) × (R q k ≡ Equal) × Has es (k, v))
          → (k : K) × (R q k ≡ Equal) × Has (e ∷ es) (k, v)
      go Less is f later = let r = later f in (r.0, r.1, inr r.2)
      go Equal is f later = let v_is : e.1 ≡ v = cc in (e.0, is, inl (λ i. (e.0, sym v_is i)))
      go Greater is f later = let r = later f in (r.0, r.1, inr r.2)

  pub tied_some : (q k : K) (es : List (K × X)) (v : X) → Has es (k, v) → R q k ≡ Equal → find R q es ≡ None → ⊥
  tied_some q k [] v h tie none = h
  tied_some q k (e ∷ es) v (inl is) tie none =
      let at : R q e.0 ≡ Equal = ap (λ (p : K × X). R q p.0) (sym is) ∙ tie in
      absurd (let e = rw at at none in cc)
  tied_some q k (e ∷ es) v (inr h) tie none = go (R q e.0) none (tied_some q k es v h tie)
    where
      go : (r : Ordering) → cond (is_eq r) (Some e.1) (find R q es) ≡ None → (find R q es ≡ None → ⊥) → ⊥
      go Less f later = later f
      go Equal f later = absurd (let e = f in cc)
      go Greater f later = later f

  below_has : (x k : K) (v : X) (es : List (K × X)) → AllByRecursion (λ y. R x y ≡ Less) (map (λ e. e.0) es)
      → Has es (k, v) → R x k ≡ Less
  below_has x k v [] all h = absurd h
  below_has x k v (e ∷ es) all (inl is) = ap (λ (p : K × X). R x p.0) is ∙ all.0
  below_has x k v (e ∷ es) all (inr h) = below_has x k v es all.1 h

  found_at : (q k : K) (es : List (K × X)) (v : X) → IsStrictlySortedBy R (map (λ e. e.0) es) → Has es (k, v)
      → R q k ≡ Equal → find R q es ≡ Some v
  unfolding IsStrictlySortedBy
  found_at q k [] v up h tie = absurd h
  found_at q k (e ∷ es) v up (inl is) tie =
      let at : R q e.0 ≡ Equal = ap (λ (p : K × X). R q p.0) (sym is) ∙ tie in
      rw at (ap (λ (p : K × X). Some p.1) (sym is))
  found_at q k (e ∷ es) v up (inr h) tie =
      let below : R e.0 k ≡ Less = below_has e.0 k v es up.0 h in
      let at : R q e.0 ≡ Greater = o.congr q k e.0 tie ∙ o.antisymm k e.0 ∙ ap ordering_reverse below in
      rw at (found_at q k es v up.1 h tie)

  pub same_finds : (ls es : List (K × X)) → ((e : K × X) → Has ls e → Has es e) → ((e : K × X) → Has es e → Has ls e)
      → IsStrictlySortedBy R (map (λ e. e.0) es) → (q : K) → find R q ls ≡ find R q es
  same_finds ls es to back up q = go (find R q ls) refl (find R q es) refl
    where
      go : (a : Option X) → find R q ls ≡ a → (b : Option X) → find R q es ≡ b → a ≡ b
      go (Some v) a b is = let f = found_has q ls v a in sym (found_at q f.0 es v up (to _ f.2) f.1) ∙ is
      go None a None is = refl
      go None a (Some v) is = let f = found_has q es v is in absurd (tied_some q f.0 ls v (back _ f.2) f.1 a)

  -- a list that rises and has the same entries is what the map lists
  pub listed_as : (ls es : List (K × X)) → ((e : K × X) → Has ls e → Has es e) → ((e : K × X) → Has es e → Has ls e)
      → IsStrictlySortedBy R (map (λ e. e.0) es) → finite.entries (finite.from_entries {R = R} ls) ≡ es
  listed_as ls es to back up =
      let m = finite.from_sorted {R = R} es in
      let ordered = sorted_entries es up in
      let eq : finite.from_entries ls ≡ m =
      finite.same_map o same _ _ (λ q. finite.get-from_entries o ls q ∙ same_finds ls es to back up q
      ∙ sym (finite.get-from_sorted R es q ordered)) in
      ap finite.entries eq ∙ finite.entries-from_sorted R es ordered

below_from : (r : Ordering) → true ≡ is_lt r → r ≡ Less
below_from Less h = refl
below_from Equal h = cc
below_from Greater h = cc

-- what a test of neighbours says
pub rises_by : {A K : Type 0} {R : K → K → Ordering} (o : IsTotalOrder R) (f : A → K) (xs : List A)
    → AllAdjacentBelow (λ x y. true ≡ is_lt (R (f x) (f y))) xs (length xs) → IsStrictlySortedBy R (map f xs)
unfolding IsStrictlySortedBy
rises_by o f [] h = tt
rises_by o f (d ∷ xs) h =
    sorted_from_all_adjacent o (map f (d ∷ xs)) (f d) (λ k low.
    let in_range : k + 1 < length (d ∷ xs) = omega (arith, length-map (d ∷ xs) f, low) in
    rw (get_or-map f (d ∷ xs) k d, get_or-map f (d ∷ xs) (k + 1) d) (below_from _ (h k d in_range)))

-- ---- the order of generations

pub triple_total : IsTotalOrder triple_cmp
triple_total =
    then_total (on_texts (λ t. t.0)) (then_total (on_texts (λ t. t.1)) (on_total (λ (t : Triple). t.2) int_cmp_total))

pub triple_antisymmetric : finite.IsAntisymmetric triple_cmp
triple_antisymmetric = three_antisymmetric texts_antisymmetric texts_antisymmetric finite.int_cmp-IsAntisymmetric

-- ---- the order of pieces

pub numbered_total : IsTotalOrder numbered_cmp
numbered_total = then_total (on_texts (λ n. n.0)) (on_total (λ (n : Numbered). n.1) int_cmp_total)

pub numbered_antisymmetric : finite.IsAntisymmetric numbered_cmp
numbered_antisymmetric = two_antisymmetric texts_antisymmetric finite.int_cmp-IsAntisymmetric

-- ---- the order of temporary roots

pub session_path_total : IsTotalOrder session_path_cmp
session_path_total =
    then_total (on_texts (λ k. k.0))
    (then_total (on_total (λ (k : SessionPath). k.1) int_cmp_total) (on_texts (λ k. k.2)))

pub session_path_antisymmetric : finite.IsAntisymmetric session_path_cmp
session_path_antisymmetric = three_antisymmetric texts_antisymmetric finite.int_cmp-IsAntisymmetric texts_antisymmetric
