-- Entries that are put into a map one after another.
use Rattle.std.proofs.Common.{◌≡◌, List, [], ◌∷◌, Bool, true, false, cond, Some, None, Option, refl, sym, ap, ◌∙◌, T}
use Rattle.std.specs.declared.cmp.Ordering.{Ordering}
use Rattle.std.specs.declared.cmp.Ordering.TheVariants.{Less, Equal, Greater}
use Rattle.std.specs.Ordering.{eq_by_cmp, is_eq, is_lt}
use Rattle.std.specs.Cmp.{IsTotalOrder}
use Rattle.std.specs.FinMap as finite
use Rattle.std.specs.FinMap.Entries.{find as find_entry, is_sorted, below_all}
use Rattle.tables_outline.specs.Maps.{put_all}
use Rattle.tables_outline.proofs.Puts.{tied_is}
use Rattle.tables_outline.proofs.Ordered.{both_T}

abbrev either : {X : Type 0} → Option X → Option X → Option X
either (Some x) o = Some x
either None o = o

lesser : (r : Ordering) → T (is_lt r) → is_eq r ≡ false
lesser Less h = refl
lesser Equal h = absurd h
lesser Greater h = absurd h

module _ {K X : Type 0} {R : K → K → Ordering} (o : IsTotalOrder R) (alike : finite.IsAntisymmetric R) where
  pub below_none : (x : K) (es : List (K × X)) → T (below_all R x es) → find_entry R x es ≡ None
  below_none x [] h = refl
  below_none x (e ∷ es) h =
      let parts = both_T (is_lt (R x e.0)) (below_all R x es) h in
      ap (λ b. cond b (Some e.1) (find_entry R x es)) (lesser (R x e.0) parts.0) ∙ below_none x es parts.1

  get-put_all : (es : List (K × X)) (m : finite.FinMap R X) → T (is_sorted R es) → (q : K)
      → finite.get (put_all es m) q ≡ either (find_entry R q es) (finite.get m q)
  get-put_all [] m h q = refl
  get-put_all (e ∷ es) m h q =
      let parts = both_T (below_all R e.0 es) (is_sorted R es) h in
      get-put_all es (finite.insert m e.0 e.1) parts.1 q
      ∙ ap (either (find_entry R q es)) (finite.get-insert o m e.0 e.1 q)
      ∙ by (eq_by_cmp R q e.0) refl (below_none e.0 es parts.0)
    where
      by : (b : Bool) → eq_by_cmp R q e.0 ≡ b → find_entry R e.0 es ≡ None
          → either (find_entry R q es) (cond b (Some e.1) (finite.get m q))
          ≡ either (cond b (Some e.1) (find_entry R q es)) (finite.get m q)
      by false t none = refl
      by true t none = ap (λ g. either g (Some e.1)) (ap (λ x. find_entry R x es) (tied_is alike q e.0 t) ∙ none)

  or_none : (g : Option X) → either g None ≡ g
  or_none None = refl
  or_none (Some x) = refl

  -- all entries of a map make it
  pub all_put_again : (m : finite.FinMap R X) → put_all (finite.entries m) finite.empty ≡ m
  all_put_again m = finite.same_map o alike _ _ (λ q.
      get-put_all (finite.entries m) finite.empty (finite.entries_sorted m) q
      ∙ ap (either (find_entry R q (finite.entries m))) (finite.get-empty R q)
      ∙ or_none (find_entry R q (finite.entries m)) ∙ sym (finite.get-entries m q))
