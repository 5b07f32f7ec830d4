-- Keys of a map rise.
use Rattle.std.proofs.Common.{◌≡◌, List, [], ◌∷◌, map, get_or, sym, subst, arith, T}
use Rattle.std.specs.Prelude.{AllPairs}
use Rattle.std.specs.List.{AllByRecursion}
use Rattle.std.specs.List.Sorted.{IsStrictlySortedBy}
use Rattle.std.specs.Ordering.{is_lt}
use Rattle.std.specs.declared.cmp.Ordering.{Ordering}
use Rattle.std.specs.declared.cmp.Ordering.TheVariants.{Less}
use Rattle.std.specs.Cmp.{IsTotalOrder}
use Rattle.std.specs.FinMap as finite
use Rattle.std.specs.FinMap.Entries.{is_sorted, below_all}
use Rattle.std.proofs.lemmas.List.Elements.{Contains-get_or}
use Rattle.std.proofs.lemmas.List.Kept.{AllPairs-cons}
use Rattle.paths.specs.Root.{root_cmp, set_of, in_order}
use Rattle.live.proofs.Members.{below, lesser}
use Rattle.live.proofs.Order.{root_total}
use Rattle.live.specs.Numbering.{Rise, RootsRise, paths_of}
use Rattle.tables_outline.specs.Outline.{OutlineValue}
use Rattle.tables_outline.proofs.Ordered.{both_T}
use Rattle.tables_outline.proofs.Orders.{bytes_total}
use Rattle.model.specs.World.{roots_of}
use Rattle.store_reach.specs.Linked.{rows_in, row_in}
use Rattle.tables_outline.specs.Rooted.{rooted}
use Rattle.tables_outline.proofs.RootOrder.{map-map}

module _ {K X : Type 0} {R : K → K → Ordering} (o : IsTotalOrder R) where
  sorted_rise : (es : List (K × X)) → T (is_sorted R es) → AllPairs (λ a b. R a b ≡ Less) (map (λ (e : K × X). e.0) es)
  sorted_rise [] h = λ i j d l k. absurd (omega (arith, k))
  sorted_rise (e ∷ es) h =
      let parts = both_T (below_all R e.0 es) (is_sorted R es) h in
      let keys = map (λ (d : K × X). d.0) es in
      AllPairs-cons (λ a b. R a b ≡ Less) e.0 keys
      (λ k d l. below o e.0 (get_or keys k d) es parts.0 (Contains-get_or keys k d l)) (sorted_rise es parts.1)

  pub keys_rise : (m : finite.FinMap R X) → AllPairs (λ a b. R a b ≡ Less) (finite.keys m)
  keys_rise m = sorted_rise (finite.entries m) (finite.entries_sorted m)

-- keys are in order, as std says it of lists
module _ {K X : Type 0} (R : K → K → Ordering) where
  all_below : (k : K) (es : List (K × X)) → T (below_all R k es)
      → AllByRecursion (λ y. R k y ≡ Less) (map (λ (e : K × X). e.0) es)
  all_below k [] h = tt
  all_below k (e ∷ es) h = let parts =
      both_T (is_lt (R k e.0)) (below_all R k es) h in (lesser (R k e.0) parts.0, all_below k es parts.1)

  entries_sorted : (es : List (K × X)) → T (is_sorted R es) → IsStrictlySortedBy R (map (λ (e : K × X). e.0) es)
  unfolding IsStrictlySortedBy
  entries_sorted [] h = tt
  entries_sorted (e ∷ es) h = let parts =
      both_T (below_all R e.0 es) (is_sorted R es) h in (all_below e.0 es parts.0, entries_sorted es parts.1)

  pub keys_sorted : (m : finite.FinMap R X) → IsStrictlySortedBy R (finite.keys m)
  keys_sorted m = entries_sorted (finite.entries m) (finite.entries_sorted m)

-- the paths of the rows
pub paths_in : (o : OutlineValue) → paths_of (rows_in o) ≡ finite.keys o.objects
paths_in o = map-map row_in (λ r. r.0) (finite.entries o.objects)

pub rows_rise : (o : OutlineValue) → Rise (paths_of (rows_in o))
rows_rise o = subst Rise (sym (paths_in o)) (keys_rise bytes_total o.objects)

-- roots in order rise
pub roots_rise : (o : OutlineValue) → RootsRise (roots_of (rooted o))
unfolding in_order
roots_rise o = keys_rise root_total (set_of root_cmp _)
