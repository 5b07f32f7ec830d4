-- The keys and entries of finite maps as members of lists.
use Rattle.std.proofs.Common.{◌≡◌, List, [], ◌∷◌, Bool, true, false, cond, Some, None, refl, sym, ap, ◌∙◌, IsTrue}
use Rattle.std.proofs.Common.{subst, inl, inr, ◌⊎◌, T}
use Rattle.std.specs.Prelude.{Contains, is_some}
use Rattle.std.specs.declared.cmp.Ordering.{Ordering}
use Rattle.std.specs.declared.cmp.Ordering.TheVariants.{Less}
use Rattle.std.specs.Ordering.{eq_by_cmp, is_eq, nat_cmp, ordering_reverse}
use Rattle.std.specs.Cmp.{IsTotalOrder, Equal-is, tied_itself, then_total, on_total, nat_cmp_total}
use Rattle.std.specs.Cmp.Lexicographic.{on_texts}
use Rattle.std.specs.FinMap as finite
use Rattle.std.specs.FinMap.Entries.{find as find_entry, is_sorted, below_all}
use Rattle.std.proofs.lemmas.Bool.{false≢true}
use Rattle.std.proofs.lemmas.Option.{same_Some}
use Rattle.paths.specs.Root.{bytes_cmp, set_of}
use Rattle.model.specs.World.{Pair, pair_cmp, Temporary, temporary_cmp}
use Rattle.live.proofs.Members.{any_from, some_of_any, at_head, behind, cases, no_member, both_T, below}
use Rattle.live.proofs.Order.{both_equal, contains_key-set_of}
use Rattle.model.proofs.Filtered.{in_mapped}

-- ---- the orders of keys

pub bytes_antisymmetric : finite.IsAntisymmetric bytes_cmp
bytes_antisymmetric = finite.slice_cmp-IsAntisymmetric finite.nat_cmp-IsAntisymmetric

pub nat_antisymmetric : finite.IsAntisymmetric nat_cmp
nat_antisymmetric = finite.nat_cmp-IsAntisymmetric

pub pair_total : IsTotalOrder pair_cmp
pair_total = then_total (on_texts (λ (p : Pair). p.0)) (on_texts (λ (p : Pair). p.1))

pub pair_antisymmetric : finite.IsAntisymmetric pair_cmp
pair_antisymmetric x y e =
    let both = both_equal (bytes_cmp x.0 y.0) (bytes_cmp x.1 y.1) e in
    λ i. (bytes_antisymmetric x.0 y.0 both.0 i, bytes_antisymmetric x.1 y.1 both.1 i)

pub temporary_total : IsTotalOrder temporary_cmp
temporary_total =
    then_total (on_texts (λ (t : Temporary). t.owner))
    (then_total (on_total (λ (t : Temporary). t.session) nat_cmp_total) (on_texts (λ (t : Temporary). t.path)))

pub temporary_antisymmetric : finite.IsAntisymmetric temporary_cmp
temporary_antisymmetric x y e =
    let first = both_equal (bytes_cmp x.owner y.owner) _ e in
    let rest = both_equal (nat_cmp x.session y.session) (bytes_cmp x.path y.path) first.1 in
    let owner = bytes_antisymmetric x.owner y.owner first.0 in
    let session = nat_antisymmetric x.session y.session rest.0 in
    let path = bytes_antisymmetric x.path y.path rest.1 in
    λ i. record { owner = owner i; session = session i; path = path i }

-- ---- members

pub tied_is : {K : Type 0} {R : K → K → Ordering} → finite.IsAntisymmetric R → (k j : K) → IsTrue (eq_by_cmp R k j)
    → k ≡ j
tied_is {K} {R} same k j h = same k j ((Equal-is (R k j)).0 h)

module _ {K X : Type 0} {R : K → K → Ordering} where
  pub key_listed : finite.IsAntisymmetric R → (m : finite.FinMap R X) (k : K) → IsTrue (finite.contains_key m k)
      → Contains (finite.keys m) k
  key_listed same m k h =
      let x = some_of_any (eq_by_cmp R k) (finite.keys m) (sym (finite.contains_key-keys m k) ∙ h) in
      subst (λ j. Contains (finite.keys m) j) (sym (tied_is same k x.0 x.2)) x.1

  pub listed_key : IsTotalOrder R → (m : finite.FinMap R X) (k : K) → Contains (finite.keys m) k
      → IsTrue (finite.contains_key m k)
  listed_key o m k c =
      finite.contains_key-keys m k ∙ any_from (eq_by_cmp R k) (finite.keys m) k c (ap is_eq (tied_itself o k))

  entry_found : finite.IsAntisymmetric R → (es : List (K × X)) (k : K) (x : X) → find_entry R k es ≡ Some x
      → Contains es (k, x)
  entry_found same [] k x e = absurd (apart e)
    where
      apart : (None ≡ Some x) → ⊥
      apart h = cc
  entry_found same (e ∷ es) k x is = by (eq_by_cmp R k e.0) refl is (entry_found same es k x)
    where
      by : (b : Bool) → eq_by_cmp R k e.0 ≡ b → cond b (Some e.1) (find_entry R k es) ≡ Some x
          → (find_entry R k es ≡ Some x → Contains es (k, x)) → Contains (e ∷ es) (k, x)
      by true t h later =
          let key = tied_is same k e.0 t in
          let value = same_Some e.1 x h in
          subst (λ (d : K × X). Contains (e ∷ es) d) (λ i. (sym key i, value i)) (at_head e es)
      by false t h later = behind e (k, x) es (later h)

  pub entry_listed : finite.IsAntisymmetric R → (m : finite.FinMap R X) (k : K) (x : X) → finite.get m k ≡ Some x
      → Contains (finite.entries m) (k, x)
  entry_listed same m k x e = entry_found same (finite.entries m) k x (sym (finite.get-entries m k) ∙ e)

above : {K : Type 0} {R : K → K → Ordering} → IsTotalOrder R → (k q : K) → R q k ≡ Less → eq_by_cmp R k q ≡ false
above o k q less = ap is_eq (o.antisymm k q ∙ ap ordering_reverse less)

module _ {K X : Type 0} {R : K → K → Ordering} (o : IsTotalOrder R) where
  entry_value : (es : List (K × X)) → T (is_sorted R es) → (e : K × X) → Contains es e → find_entry R e.0 es ≡ Some e.1
  entry_value [] sorted e c = absurd (no_member e c)
  entry_value (d ∷ es) sorted e c =
      let parts = both_T (below_all R d.0 es) (is_sorted R es) sorted in
      elim (cases d e es c) as (λ _. cond (eq_by_cmp R e.0 d.0) (Some d.1) (find_entry R e.0 es) ≡ Some e.1) [
        | inl is ↦ subst (λ u. cond (eq_by_cmp R u.0 d.0) (Some d.1) (find_entry R u.0 es) ≡ Some u.1) is
            (ap (λ b. cond b (Some d.1) (find_entry R d.0 es)) (ap is_eq (tied_itself o d.0)))
        | inr later ↦ ap (λ b. cond b (Some d.1) (find_entry R e.0 es))
            (above o e.0 d.0 (below o d.0 e.0 es parts.0 (in_mapped (λ (u : K × X). u.0) es e later)))
            ∙ entry_value es parts.1 e later
      ]

  -- an entry that is listed is the value at its key
  pub listed_entry : (m : finite.FinMap R X) (e : K × X) → Contains (finite.entries m) e → finite.get m e.0 ≡ Some e.1
  listed_entry m e c = finite.get-entries m e.0 ∙ entry_value (finite.entries m) (finite.entries_sorted m) e c

-- ---- what a map holds after a change

module _ {K X : Type 0} {R : K → K → Ordering} (o : IsTotalOrder R) (same : finite.IsAntisymmetric R) where
  pub inserted_entry : (m : finite.FinMap R X) (k : K) (v : X) (q : K) (x : X)
      → finite.get (finite.insert m k v) q ≡ Some x → ((q ≡ k) × (v ≡ x)) ⊎ (finite.get m q ≡ Some x)
  inserted_entry m k v q x e = by (eq_by_cmp R q k) refl (sym (finite.get-insert o m k v q) ∙ e)
    where
      by : (b : Bool) → eq_by_cmp R q k ≡ b → cond b (Some v) (finite.get m q) ≡ Some x
          → ((q ≡ k) × (v ≡ x)) ⊎ (finite.get m q ≡ Some x)
      by true t h = inl (tied_is same q k t, same_Some v x h)
      by false t h = inr h

  pub inserted_key : (m : finite.FinMap R X) (k : K) (v : X) (q : K)
      → IsTrue (finite.contains_key (finite.insert m k v) q) → (q ≡ k) ⊎ IsTrue (finite.contains_key m q)
  inserted_key m k v q h = by (eq_by_cmp R q k) refl (sym (ap is_some (finite.get-insert o m k v q)) ∙ h)
    where
      by : (b : Bool) → eq_by_cmp R q k ≡ b → is_some (cond b (Some v) (finite.get m q)) ≡ true
          → (q ≡ k) ⊎ IsTrue (finite.contains_key m q)
      by true t h = inl (tied_is same q k t)
      by false t h = inr h

  pub contains_key-inserted : (m : finite.FinMap R X) (k : K) (v : X)
      → IsTrue (finite.contains_key (finite.insert m k v) k)
  contains_key-inserted m k v =
      ap is_some (finite.get-insert o m k v k)
      ∙ ap (λ b. is_some (cond b (Some v) (finite.get m k))) (ap is_eq (tied_itself o k))

  pub still_contains : (m : finite.FinMap R X) (k : K) (v : X) (q : K) → IsTrue (finite.contains_key m q)
      → IsTrue (finite.contains_key (finite.insert m k v) q)
  still_contains m k v q h = ap is_some (finite.get-insert o m k v q) ∙ at (eq_by_cmp R q k)
    where
      at : (b : Bool) → is_some (cond b (Some v) (finite.get m q)) ≡ true
      at true = refl
      at false = h

  pub removed_entry : (m : finite.FinMap R X) (k q : K) (x : X) → finite.get (finite.remove m k) q ≡ Some x
      → finite.get m q ≡ Some x
  removed_entry m k q x e = by (eq_by_cmp R q k) (sym (finite.get-remove o m k q) ∙ e)
    where
      by : (b : Bool) → cond b None (finite.get m q) ≡ Some x → finite.get m q ≡ Some x
      by true h = absurd (false≢true (ap is_some h))
      by false h = h

  pub removed_key : (m : finite.FinMap R X) (k q : K) → IsTrue (finite.contains_key (finite.remove m k) q)
      → IsTrue (finite.contains_key m q)
  removed_key m k q h = by (eq_by_cmp R q k) (sym (ap is_some (finite.get-remove o m k q)) ∙ h)
    where
      by : (b : Bool) → is_some (cond b None (finite.get m q)) ≡ true → IsTrue (finite.contains_key m q)
      by true h = absurd (false≢true h)
      by false h = h

  pub other_key : (m : finite.FinMap R X) (k q : K) → eq_by_cmp R q k ≡ false → IsTrue (finite.contains_key m q)
      → IsTrue (finite.contains_key (finite.remove m k) q)
  other_key m k q apart h =
      ap is_some (finite.get-remove o m k q) ∙ ap (λ b. is_some (cond b None (finite.get m q))) apart ∙ h

-- a key that is retained passes the test, and was there
pub retained_key : {K X : Type 0} {R : K → K → Ordering} → finite.IsAntisymmetric R
    → (m : finite.FinMap R X) (test : K → Bool) (k : K) → IsTrue (finite.contains_key (finite.retain_keys m test) k)
    → IsTrue (test k) × IsTrue (finite.contains_key m k)
retained_key {K} {X} {R} same m test k h =
    by (test k) refl (sym (ap is_some (finite.get-retain_keys m test k (λ x e. ap test (sym (same k x e))))) ∙ h)
  where
    by : (b : Bool) → test k ≡ b → is_some (cond b (finite.get m k) None) ≡ true
        → IsTrue (test k) × IsTrue (finite.contains_key m k)
    by true t e = (t, e)
    by false t e = absurd (false≢true e)

-- a key of the set of a list is a member of it
pub set_member : {K : Type 0} {R : K → K → Ordering} → IsTotalOrder R → finite.IsAntisymmetric R → (xs : List K) (k : K)
    → IsTrue (finite.contains_key (set_of R xs) k) → Contains xs k
set_member {K} {R} o same xs k h =
    let x = some_of_any (eq_by_cmp R k) xs (sym (contains_key-set_of o xs k) ∙ h) in
    subst (λ j. Contains xs j) (sym (tied_is same k x.0 x.2)) x.1
