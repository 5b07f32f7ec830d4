-- The order of roots, and the members of a list in that order.
use Rattle.std.proofs.Common.{◌≡◌, ℕ, suc, ◌<◌, ◌&&◌, length, get_or, arith, List, [], ◌∷◌, map, Bool, true, false}
use Rattle.std.proofs.Common.{Some, None, Option, refl, sym, ap, ◌∙◌, IsTrue, subst}
use Rattle.std.specs.Prelude.{Contains, AllPairs, is_some, if◌then◌else◌}
use Rattle.std.specs.List.{list_any, find}
use Rattle.std.specs.declared.cmp.Ordering.{Ordering}
use Rattle.std.specs.declared.cmp.Ordering.TheVariants.{Less, Equal, Greater}
use Rattle.std.specs.Ordering.{eq_by_cmp, is_eq, is_lt, ordering_then, nat_cmp}
use Rattle.std.specs.Cmp.{IsTotalOrder, Equal-is, tied_itself, then_total, on_total, nat_cmp_total}
use Rattle.std.specs.Cmp.Lexicographic.{on_texts}
use Rattle.std.specs.FinMap as finite
use Rattle.std.specs.FinMap.Entries.{is_some-find, is_sorted, below_all}
use lib.Dec.{T}
use Rattle.std.proofs.lemmas.Bool.{false≢true, false_from_ne_true}
use Rattle.paths.specs.Root.{bytes_cmp, Set, set_of, Kind, permanent, user, profile, runtime, temporary, Root, place}
use Rattle.paths.specs.Root.{root_cmp, in_order}
use Rattle.live.proofs.Members.{any_from, some_of_any, least}

pub root_total : IsTotalOrder root_cmp
root_total =
    then_total (on_total (λ (r : Root). place r.kind) nat_cmp_total)
    (then_total (on_texts (λ (r : Root). r.target)) (on_texts (λ (r : Root). r.label)))

-- ---- roots are distinguished by kind, target and label

kind_at : ℕ → Kind
kind_at n =
    if is_at n 0 then permanent else if is_at n 1 then user else if is_at n 2 then profile else if is_at n 3
    then runtime else temporary
  where
    is_at : ℕ → ℕ → Bool
    is_at n k = eq_by_cmp nat_cmp n k

kind_at-place : (k : Kind) → kind_at (place k) ≡ k
unfolding kind_at
kind_at-place permanent = refl
kind_at-place user = refl
kind_at-place profile = refl
kind_at-place runtime = refl
kind_at-place temporary = refl

pub same_kinds : (j k : Kind) → nat_cmp (place j) (place k) ≡ Equal → j ≡ k
same_kinds j k e =
    sym (kind_at-place j) ∙ ap kind_at (finite.nat_cmp-IsAntisymmetric (place j) (place k) e) ∙ kind_at-place k

pub both_equal : (r s : Ordering) → ordering_then r s ≡ Equal → (r ≡ Equal) × (s ≡ Equal)
both_equal Less s e = cc
both_equal Equal s e = (refl, e)
both_equal Greater s e = cc

pub root_antisymmetric : finite.IsAntisymmetric root_cmp
root_antisymmetric x y e =
    let kinds = both_equal (nat_cmp (place x.kind) (place y.kind)) _ e in
    let texts = both_equal (bytes_cmp x.target y.target) (bytes_cmp x.label y.label) kinds.1 in
    let kind : x.kind ≡ y.kind = same_kinds x.kind y.kind kinds.0 in
    let target = finite.slice_cmp-IsAntisymmetric finite.nat_cmp-IsAntisymmetric x.target y.target texts.0 in
    let label = finite.slice_cmp-IsAntisymmetric finite.nat_cmp-IsAntisymmetric x.label y.label texts.1 in
    λ i. record { kind = kind i; target = target i; label = label i }

-- ---- the members of a list of roots in order

pub firsts : {K : Type 0} (ks : List K) → map (λ (e : K × Unit {0}). e.0) (map (λ (k : K). (k, tt)) ks) ≡ ks
firsts [] = refl
firsts (k ∷ ks) = ap (λ xs. k ∷ xs) (firsts ks)

-- a key of the set of a list is in the list
pub contains_key-set_of : {K : Type 0} {R : K → K → Ordering} → IsTotalOrder R → (xs : List K) (k : K)
    → finite.contains_key (set_of R xs) k ≡ list_any (eq_by_cmp R k) xs
contains_key-set_of {K} {R} o xs k =
    ap is_some (finite.get-from_entries o (map (λ (k : K). (k, tt)) xs) k)
    ∙ is_some-find R k (map (λ (k : K). (k, tt)) xs)
    ∙ ap (λ ks. list_any (eq_by_cmp R k) ks) (firsts xs)

to_test : (xs : List Root) (r : Root) → Contains xs r → IsTrue (list_any (eq_by_cmp root_cmp r) xs)
to_test xs r c = any_from (eq_by_cmp root_cmp r) xs r c (ap is_eq (tied_itself root_total r))

from_test : (xs : List Root) (r : Root) → IsTrue (list_any (eq_by_cmp root_cmp r) xs) → Contains xs r
from_test xs r h =
    let x = some_of_any (eq_by_cmp root_cmp r) xs h in
    subst (λ y. Contains xs y) (sym (root_antisymmetric r x.0 ((Equal-is (root_cmp r x.0)).0 x.2))) x.1

same_tests : (xs : List Root) (r : Root)
    → list_any (eq_by_cmp root_cmp r) (in_order xs) ≡ list_any (eq_by_cmp root_cmp r) xs
unfolding in_order
same_tests xs r = sym (finite.contains_key-keys (set_of root_cmp xs) r) ∙ contains_key-set_of root_total xs r

pub ordered_member : (xs : List Root) (r : Root) → Contains xs r → Contains (in_order xs) r
ordered_member xs r c = from_test (in_order xs) r (same_tests xs r ∙ to_test xs r c)

pub member_ordered : (xs : List Root) (r : Root) → Contains (in_order xs) r → Contains xs r
member_ordered xs r c = from_test xs r (sym (same_tests xs r) ∙ to_test (in_order xs) r c)

-- what is found first in order is least
pub least_in_order : (xs : List Root) (p : Root → Bool) (r s : Root) → find p (in_order xs) ≡ Some r
    → Contains (in_order xs) s → IsTrue (p s) → root_cmp s r ≡ Less → ⊥
unfolding in_order
least_in_order xs p r s found c t less =
    least root_total p (finite.entries (set_of root_cmp xs)) (finite.entries_sorted (set_of root_cmp xs)) r s found c t
    less

-- ---- lists with the same members

unit_option : (a b : Option (Unit {0})) → is_some a ≡ is_some b → a ≡ b
unit_option None None e = refl
unit_option None (Some u) e = absurd (false≢true e)
unit_option (Some u) None e = absurd (false≢true (sym e))
unit_option (Some u) (Some v) e = refl

-- two sets with the same keys are one
pub same_set : {K : Type 0} {R : K → K → Ordering} → IsTotalOrder R → finite.IsAntisymmetric R → (a b : Set R)
    → ((k : K) → finite.contains_key a k ≡ finite.contains_key b k) → a ≡ b
same_set o same a b f = finite.same_map o same a b (λ k. unit_option (finite.get a k) (finite.get b k) (f k))

pub same_bools : (a b : Bool) → (IsTrue a → IsTrue b) → (IsTrue b → IsTrue a) → a ≡ b
same_bools true b f g = sym (f refl)
same_bools false b f g = sym (false_from_ne_true b (λ h. false≢true (g h)))

-- the order of a list is that of its members
pub same_order : (xs ys : List Root) → ((r : Root) → Contains xs r → Contains ys r)
    → ((r : Root) → Contains ys r → Contains xs r) → in_order xs ≡ in_order ys
unfolding in_order
same_order xs ys f g =
    ap finite.keys (same_set root_total root_antisymmetric (set_of root_cmp xs) (set_of root_cmp ys) (λ r.
    contains_key-set_of root_total xs r
    ∙ same_bools (list_any (eq_by_cmp root_cmp r) xs) (list_any (eq_by_cmp root_cmp r) ys)
    (λ h. to_test ys r (f r (from_test xs r h))) (λ h. to_test xs r (g r (from_test ys r h)))
    ∙ sym (contains_key-set_of root_total ys r)))

-- ---- a list in order

pub from_both : (a b : Bool) → T a → T b → T (a && b)
from_both true b g h = h
from_both false b g h = absurd g

abbrev units : List Root → List (Root × Unit {0})
units rs = map (λ (k : Root). (k, tt)) rs

below_units : (r : Root) (rs : List Root) → ((j : ℕ) → j < length rs → (d : Root) → root_cmp r (get_or rs j d) ≡ Less)
    → T (below_all root_cmp r (units rs))
below_units r [] h = tt
below_units r (s ∷ rs) h =
    from_both (is_lt (root_cmp r s)) _ (subst (λ o. T (is_lt o)) (sym (h 0 (omega arith) s)) tt)
    (below_units r rs (λ j l d. h (suc j) (omega arith) d))

sorted_units : (rs : List Root) → AllPairs (λ a b. root_cmp a b ≡ Less) rs → T (is_sorted root_cmp (units rs))
sorted_units [] h = tt
sorted_units (r ∷ rs) h =
    from_both (below_all root_cmp r (units rs)) _
    (below_units r rs (λ j l d. h 0 (suc j) d (omega arith) (omega arith)))
    (sorted_units rs (λ i j d l k. h (suc i) (suc j) d (omega arith) (omega arith)))

-- roots that strictly rise are in order
pub in_order_is : (rs : List Root) → AllPairs (λ a b. root_cmp a b ≡ Less) rs → in_order rs ≡ rs
unfolding in_order
in_order_is rs h =
    let es = units rs in
    let sorted = sorted_units rs h in
    ap finite.keys (finite.same_map root_total root_antisymmetric (finite.from_entries (units rs))
    (finite.from_sorted {R = root_cmp} (units rs))
    (λ q. finite.get-from_entries root_total (units rs) q ∙ sym (finite.get-from_sorted root_cmp (units rs) q sorted)))
    ∙ ap (map (λ (e : Root × Unit {0}). e.0)) (finite.entries-from_sorted root_cmp (units rs) sorted) ∙ firsts rs
