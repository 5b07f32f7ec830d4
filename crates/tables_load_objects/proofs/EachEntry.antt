-- A test of all entries of a map, and what the map holds at each key.
use Rattle.std.proofs.Common.{◌≡◌, List, [], ◌∷◌, Bool, true, false, ◌&&◌, cond, Some, None, is_some, refl, sym, ap}
use Rattle.std.proofs.Common.{subst, ◌∙◌, T, IsTrue}
use Rattle.std.specs.Prelude.{◌↔◌}
use Rattle.std.specs.declared.cmp.Ordering.{Ordering}
use Rattle.std.specs.declared.cmp.Ordering.TheVariants.{Less, Equal, Greater}
use Rattle.std.specs.Ordering.{eq_by_cmp, is_eq, is_lt}
use Rattle.std.specs.Cmp.{IsTotalOrder, tied_itself}
use Rattle.std.specs.List.{list_all, AllByRecursion}
use Rattle.std.specs.FinMap as finite
use Rattle.std.specs.FinMap.Entries.{find as find_entry, is_sorted, below_all}
use Rattle.std.proofs.lemmas.Bool.{false≢true}
use Rattle.std.proofs.lemmas.Option.{same_Some}
use Rattle.tables_outline.proofs.Puts.{tied_is}
use Rattle.tables_outline.proofs.Ordered.{both_T}

lesser : (r : Ordering) → T (is_lt r) → is_eq r ≡ false
lesser Less h = refl
lesser Equal h = absurd h
lesser Greater h = absurd h

module _ {K X : Type 0} {R : K → K → Ordering} (o : IsTotalOrder R) (alike : finite.IsAntisymmetric R) where
  below_none : (x : K) (es : List (K × X)) → T (below_all R x es) → find_entry R x es ≡ None
  below_none x [] h = refl
  below_none x (e ∷ es) h =
      let parts = both_T (is_lt (R x e.0)) (below_all R x es) h in
      ap (λ b. cond b (Some e.1) (find_entry R x es)) (lesser (R x e.0) parts.0) ∙ below_none x es parts.1

  module _ (P : K × X → Type 0) where
    all_from : (es : List (K × X)) → T (is_sorted R es) → ((k : K) (x : X) → find_entry R k es ≡ Some x → P (k, x))
        → AllByRecursion P es
    all_from [] up h = tt
    all_from (e ∷ es) up h =
        let parts = both_T (below_all R e.0 es) (is_sorted R es) up in (
          h e.0 e.1 (ap (λ r. cond (is_eq r) (Some e.1) (find_entry R e.0 es)) (tied_itself o e.0)),
          all_from es parts.1 (λ k x found. h k x (by k x found (below_none e.0 es parts.0) (eq_by_cmp R k e.0) refl)),
        )
      where
        by : (k : K) (x : X) → find_entry R k es ≡ Some x → find_entry R e.0 es ≡ None → (b : Bool)
            → eq_by_cmp R k e.0 ≡ b → cond b (Some e.1) (find_entry R k es) ≡ Some x
        by k x found none true t =
            absurd (false≢true (ap is_some
            (sym none ∙ ap (λ j. find_entry R j es) (sym (tied_is alike k e.0 t)) ∙ found)))
        by k x found none false t = found

    -- what holds of what the map has at each key holds of all its entries
    pub each_entry : (m : finite.FinMap R X) → ((k : K) (x : X) → finite.get m k ≡ Some x → P (k, x))
        → AllByRecursion P (finite.entries m)
    each_entry m h =
        all_from (finite.entries m) (finite.entries_sorted m) (λ k x found. h k x (finite.get-entries m k ∙ found))

    at_key : (es : List (K × X)) → AllByRecursion P es → (k : K) (x : X) → find_entry R k es ≡ Some x → P (k, x)
    at_key [] h k x found = absurd (false≢true (ap is_some found))
    at_key (e ∷ es) h k x found = by (eq_by_cmp R k e.0) refl found (at_key es h.1 k x)
      where
        by : (b : Bool) → eq_by_cmp R k e.0 ≡ b → cond b (Some e.1) (find_entry R k es) ≡ Some x
            → (find_entry R k es ≡ Some x → P (k, x)) → P (k, x)
        by true t found later =
            let key = tied_is alike k e.0 t in
            let value = same_Some e.1 x found in
            subst P (λ i. (sym key i, value i)) h.0
        by false t found later = later found

    -- and the other way
    pub each_key : (m : finite.FinMap R X) → AllByRecursion P (finite.entries m) → (k : K) (x : X)
        → finite.get m k ≡ Some x → P (k, x)
    each_key m h k x found = at_key (finite.entries m) h k x (sym (finite.get-entries m k) ∙ found)

  -- ---- by a test

  all_true : (test : K × X → Bool) (es : List (K × X)) → list_all test es ≡ true
      → AllByRecursion (λ e. IsTrue (test e)) es
  all_true test [] h = tt
  all_true test (e ∷ es) h = by (test e) refl h (all_true test es)
    where
      by : (b : Bool) → test e ≡ b → (b && list_all test es) ≡ true
          → (list_all test es ≡ true → AllByRecursion (λ d. IsTrue (test d)) es)
          → (test e ≡ true) × AllByRecursion (λ d. IsTrue (test d)) es
      by true t rest later = (t, later rest)
      by false t rest later = absurd (false≢true rest)

  true_all : (test : K × X → Bool) (es : List (K × X)) → AllByRecursion (λ e. IsTrue (test e)) es
      → list_all test es ≡ true
  true_all test [] h = refl
  true_all test (e ∷ es) h = ap (λ b. b && list_all test es) h.0 ∙ true_all test es h.1

  pub tested_entries : (m : finite.FinMap R X) (test : K × X → Bool)
      → (list_all test (finite.entries m) ≡ true) ↔ ((k : K) (x : X) → finite.get m k ≡ Some x → IsTrue (test (k, x)))
  tested_entries m test = (
    λ h. each_key (λ e. IsTrue (test e)) m (all_true test (finite.entries m) h),
    λ h. true_all test (finite.entries m) (each_entry (λ e. IsTrue (test e)) m h),
  )
