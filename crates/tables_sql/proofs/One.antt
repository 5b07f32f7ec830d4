-- The one entry of a key, as a read of that key lists it.
use Rattle.std.proofs.Common.{◌≡◌, inl, inr, List, [], ◌∷◌, Bool, true, false, cond, ◌&&◌, Some, None, Less, Equal}
use Rattle.std.proofs.Common.{Greater, Ordering, refl, sym, ap, subst, ◌∙◌}
use Rattle.std.specs.Ordering.{is_lt, is_eq, eq_by_cmp, ordering_reverse}
use Rattle.std.specs.Cmp.{IsTotalOrder, eq_by_cmp_equiv}
use Rattle.std.specs.FinMap as finite
use Rattle.std.specs.FinMap.Entries.{is_sorted, below_all, find}
use Rattle.sqlite_rules.specs.Lists.{Has}
use lib.Dec.{T}

parts : (a b : Bool) → T (a && b) → T a × T b
parts true b h = (tt, h)
parts false b h = absurd h

less : (r : Ordering) → T (is_lt r) → r ≡ Less
less Less h = refl
less Equal h = absurd h
less Greater h = absurd h

equal : (r : Ordering) → is_eq r ≡ true → r ≡ Equal
equal Less h = absurd (let e = h in cc)
equal Equal h = refl
equal Greater h = absurd (let e = h in cc)

module _ {K X : Type 0} {R : K → K → Ordering} (o : IsTotalOrder R) (same : finite.IsAntisymmetric R) where
  below_each : (x : K) (es : List (K × X)) (k : K) (v : X) → T (below_all R x es) → Has es (k, v) → R x k ≡ Less
  below_each x [] k v all h = absurd h
  below_each x (e ∷ es) k v all (inl is) = ap (λ (p : K × X). R x p.0) is ∙ less _ (parts _ _ all).0
  below_each x (e ∷ es) k v all (inr h) = below_each x es k v (parts _ _ all).1 h

  -- a list whose keys rise finds each entry by its key
  found : (es : List (K × X)) (k : K) (v : X) → T (is_sorted R es) → Has es (k, v) → find R k es ≡ Some v
  found [] k v up h = absurd h
  found (e ∷ es) k v up (inl is) =
      let at : eq_by_cmp R k e.0 ≡ true = ap (λ (p : K × X). eq_by_cmp R k p.0) (sym is) ∙ (eq_by_cmp_equiv o).refl k in
      rw at (ap (λ (p : K × X). Some p.1) (sym is))
  found (e ∷ es) k v up (inr h) =
      let below : R e.0 k ≡ Less = below_each e.0 es k v (parts _ _ up).0 h in
      let at : R k e.0 ≡ Greater = o.antisymm k e.0 ∙ ap ordering_reverse below in
      rw at (found es k v (parts _ _ up).1 h)

  module _ (m : finite.FinMap R X) (q : K) where
    abbrev own : K → Bool
    own k = eq_by_cmp R k q

    alike : (k x : K) → R k x ≡ Equal → own x ≡ own k
    alike k x e = ap own (sym (same k x e))

    loaded : (k : K) (v : X) (b : Bool) → own k ≡ b → cond b (finite.get m k) None ≡ Some v
        → (k ≡ q) × (finite.get m q ≡ Some v)
    loaded k v true is h = let e = same k q (equal _ is) in (e, subst (λ x. finite.get m x ≡ Some v) e h)
    loaded k v false is h = absurd (let e = h in cc)

    -- what is listed is the entry of the key
    pub one_is : (k : K) (v : X) → Has (finite.entries (finite.retain_keys m own)) (k, v)
        → (k ≡ q) × (finite.get m q ≡ Some v)
    one_is k v h =
        let kept = finite.retain_keys m own in
        let present : finite.get kept k ≡ Some v =
        finite.get-entries kept k ∙ found (finite.entries kept) k v (finite.entries_sorted kept) h in
        loaded k v (own k) refl (sym (finite.get-retain_keys m own k (alike k)) ∙ present)

    -- and where none is listed, there is none
    pub none_is : [] ≡ finite.entries (finite.retain_keys m own) → finite.get m q ≡ None
    none_is h =
        let kept = finite.retain_keys m own in
        let present : finite.get kept q ≡ None = finite.get-entries kept q ∙ sym (ap (find R q) h) in
        let passes : own q ≡ true = (eq_by_cmp_equiv o).refl q in
        sym (ap (λ b. cond b (finite.get m q) None) passes) ∙ sym (finite.get-retain_keys m own q (alike q)) ∙ present
