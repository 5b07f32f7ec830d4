-- Hiding labels before or after ordering gives the same, once equal pairs are one.
use Rattle.std.proofs.Common.{◌≡◌, List, [], ◌∷◌, map, Bool, true, false, not, cond, refl, sym, ap, ◌∙◌, subst}
use Rattle.std.specs.Prelude.{Contains}
use Rattle.std.specs.List.{filter}
use Rattle.std.specs.declared.cmp.Ordering.{Ordering}
use Rattle.std.specs.declared.cmp.Ordering.TheVariants.{Less, Equal, Greater}
use Rattle.std.specs.Ordering.{ordering_reverse}
use Rattle.std.specs.FinMap as finite
use Rattle.std.specs.FinMap.Entries.{put, by_order, is_sorted, below_all}
use Rattle.std.proofs.lemmas.Bool.{and_from}
use Rattle.paths.specs.Root.{Root, root_cmp, set_of, in_order}
use Rattle.live.specs.Graph.{same}
use Rattle.live.proofs.Members.{at_head, not_both, below, both_T}
use Rattle.live.proofs.Reach.{same_itself}
use Rattle.live.proofs.Order.{root_total, root_antisymmetric, member_ordered}
use Rattle.model.specs.World.{Pair}
use Rattle.model.proofs.Empty.{no_entries}
use Rattle.model.specs.Seen.{plain, censored, same_pair, each_once}
use Rattle.model.proofs.Filtered.{in_mapped, from_mapped, from_filtered}
use Rattle.model.proofs.Censored.{below_hidden}
use lib.Dec.{T}

-- no later element is below an earlier one
abbrev Rises : List Root → Type 0
Rises [] = Unit {0}
Rises (x ∷ xs) = ((y : Root) → Contains xs y → root_cmp y x ≡ Less → ⊥) × Rises xs

twice : (f : Pair → Bool) (ps : List Pair) → filter f (filter f ps) ≡ filter f ps
twice f [] = refl
twice f (p ∷ ps) = by (f p) refl (twice f ps)
  where
    by : (b : Bool) → f p ≡ b → filter f (filter f ps) ≡ filter f ps
        → filter f (cond b (p ∷ filter f ps) (filter f ps)) ≡ cond b (p ∷ filter f ps) (filter f ps)
    by true e later = ap (λ b. cond b (p ∷ filter f (filter f ps)) (filter f (filter f ps))) e ∙ ap (λ qs. p ∷ qs) later
    by false e later = later

-- one more element at the beginning
put_first : (m : Root) (es : List (Root × Unit {0}))
    → ((y : Root) → Contains (map (λ (e : Root × Unit {0}). e.0) es) y → root_cmp y m ≡ Less → ⊥)
    → (same_pair (plain m) (plain m) ≡ true)
    → each_once (map plain (map (λ (e : Root × Unit {0}). e.0) (put root_cmp m tt es)))
    ≡ plain m ∷ filter (λ q. not (same_pair (plain m) q))
    (each_once (map plain (map (λ (e : Root × Unit {0}). e.0) es)))
put_first m [] f t = refl
put_first m (e ∷ es) f t = by (root_cmp m e.0) refl
  where
    rest : List Pair
    rest = each_once (map plain (map (λ (d : Root × Unit {0}). d.0) es))

    by : (o : Ordering) → root_cmp m e.0 ≡ o
        → each_once (map plain (map (λ (d : Root × Unit {0}). d.0)
        (by_order o ((m, tt) ∷ e ∷ es) ((e.0, tt) ∷ es) (e ∷ put root_cmp m tt es))))
        ≡ plain m ∷ filter (λ q. not (same_pair (plain m) q))
        (plain e.0 ∷ filter (λ q. not (same_pair (plain e.0) q))
        (each_once (map plain (map (λ (d : Root × Unit {0}). d.0) es))))
    by Less o = refl
    by Equal o =
        let same : e.0 ≡ m = sym (root_antisymmetric m e.0 o) in
        subst (λ (x : Root). plain x ∷ filter (λ q. not (same_pair (plain x) q)) rest
        ≡ plain m ∷ filter (λ q. not (same_pair (plain m) q))
        (plain x ∷ filter (λ q. not (same_pair (plain x) q)) rest)) (sym same)
        (sym (ap (λ b. plain m ∷ cond (not b)
        (plain m ∷ filter (λ q. not (same_pair (plain m) q)) (filter (λ q. not (same_pair (plain m) q)) rest))
        (filter (λ q. not (same_pair (plain m) q)) (filter (λ q. not (same_pair (plain m) q)) rest))) t
        ∙ ap (λ qs. plain m ∷ qs) (twice (λ q. not (same_pair (plain m) q)) rest)))
    by Greater o =
        absurd (f e.0 (at_head e.0 (map (λ (d : Root × Unit {0}). d.0) es))
        (root_total.antisymm e.0 m ∙ ap ordering_reverse o))

pair_itself : (m : Root) → same_pair (plain m) (plain m) ≡ true
pair_itself m = and_from (same m.label m.label) (same m.target m.target) (same_itself m.label) (same_itself m.target)

ordered : (xs : List Root) → Rises xs → each_once (map plain (in_order xs)) ≡ each_once (map plain xs)
unfolding in_order
ordered [] r =
    ap (λ (es : List (Root × Unit {0})). each_once (map plain (map (λ (e : Root × Unit {0}). e.0) es)))
    (no_entries (Unit {0}) root_cmp)
ordered (x ∷ xs) r =
    ap (λ (es : List (Root × Unit {0})). each_once (map plain (map (λ (e : Root × Unit {0}). e.0) es)))
    (finite.entries-insert root_total (set_of root_cmp xs) x tt)
    ∙ put_first x (finite.entries (set_of root_cmp xs)) (λ y c. r.0 y (member_ordered xs y c)) (pair_itself x)
    ∙ ap (λ (ps : List Pair). plain x ∷ filter (λ q. not (same_pair (plain x) q)) ps) (ordered xs r.1)

rises : (es : List (Root × Unit {0})) → T (is_sorted root_cmp es)
    → Rises (map censored (map (λ (e : Root × Unit {0}). e.0) es))
rises [] h = tt
rises (e ∷ es) h =
    let parts = both_T (below_all root_cmp e.0 es) (is_sorted root_cmp es) h in (
      (λ y c less.
          let x = from_mapped censored (map (λ (d : Root × Unit {0}). d.0) es) y c in
          not_both root_total e.0 x.0 (below root_total e.0 x.0 es parts.0 x.1)
          (below_hidden x.0 e.0 (subst (λ (z : Root). root_cmp z (censored e.0) ≡ Less) (sym x.2) less))),
      rises es parts.1,
    )

rises_in_order : (xs : List Root) → Rises (map censored (in_order xs))
unfolding in_order
rises_in_order xs = rises (finite.entries (set_of root_cmp xs)) (finite.entries_sorted (set_of root_cmp xs))

rises_filtered : (p : Root → Bool) (xs : List Root) → Rises (map censored xs) → Rises (map censored (filter p xs))
rises_filtered p [] r = tt
rises_filtered p (x ∷ xs) r = by (p x) (rises_filtered p xs r.1)
  where
    above : (y : Root) → Contains (map censored (filter p xs)) y → root_cmp y (censored x) ≡ Less → ⊥
    above y c less =
        let z = from_mapped censored (filter p xs) y c in
        r.0 y (subst (λ (u : Root). Contains (map censored xs) u) z.2
        (in_mapped censored xs z.0 (from_filtered p xs z.0 z.1).0)) less

    by : (b : Bool) → Rises (map censored (filter p xs)) → Rises (map censored (cond b (x ∷ filter p xs) (filter p xs)))
    by true later = (above, later)
    by false later = later

-- all roots in order
pub hidden_all : (xs : List Root)
    → each_once (map plain (map censored (in_order xs))) ≡ each_once (map plain (in_order (map censored (in_order xs))))
hidden_all xs = sym (ordered (map censored (in_order xs)) (rises_in_order xs))

-- those of them that pass a test
pub hidden_some : (p : Root → Bool) (xs : List Root)
    → each_once (map plain (map censored (filter p (in_order xs))))
    ≡ each_once (map plain (in_order (map censored (filter p (in_order xs)))))
hidden_some p xs =
    sym (ordered (map censored (filter p (in_order xs))) (rises_filtered p (in_order xs) (rises_in_order xs)))
