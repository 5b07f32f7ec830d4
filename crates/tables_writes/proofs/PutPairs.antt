-- Pairs that are put one after another.
use Rattle.std.proofs.Common.{◌≡◌, List, [], ◌∷◌, map, Bool, true, false, ◌||◌, cond, Some, None, Option, refl, sym, ap}
use Rattle.std.proofs.Common.{◌∙◌}
use Rattle.std.specs.List.{list_any}
use Rattle.std.specs.Ordering.{eq_by_cmp}
use Rattle.std.specs.FinMap as finite
use Rattle.std.specs.FinMap.Entries.{find as find_entry}
use Rattle.paths.specs.Root.{set_of}
use Rattle.tables_sql.specs.Contents.{Pair, PairSet, pair_cmp}
use Rattle.tables_outline.proofs.Orders.{pair_total, pair_antisymmetric}
use Rattle.tables_writes.specs.Rewritten.{put_pairs}

get-put_pairs : (ps : List Pair) (m : PairSet) (q : Pair)
    → finite.get (put_pairs ps m) q ≡ cond (list_any (eq_by_cmp pair_cmp q) ps) (Some tt) (finite.get m q)
get-put_pairs [] m q = refl
get-put_pairs (p ∷ ps) m q =
    get-put_pairs ps (finite.insert m p tt) q
    ∙ ap (cond (list_any (eq_by_cmp pair_cmp q) ps) (Some tt)) (finite.get-insert pair_total m p tt q)
    ∙ by (eq_by_cmp pair_cmp q p) (list_any (eq_by_cmp pair_cmp q) ps) (finite.get m q)
  where
    by : (b r : Bool) (g : Option (Unit {0})) → cond r (Some tt) (cond b (Some tt) g) ≡ cond (b || r) (Some tt) g
    by true true g = refl
    by true false g = refl
    by false true g = refl
    by false false g = refl

found : (q : Pair) (ps : List Pair)
    → find_entry pair_cmp q (map (λ (p : Pair). let e : Pair × Unit {0} = (p, tt) in e) ps)
    ≡ cond (list_any (eq_by_cmp pair_cmp q) ps) (Some tt) None
found q [] = refl
found q (p ∷ ps) = by (eq_by_cmp pair_cmp q p) (found q ps)
  where
    by : (b : Bool) → find_entry pair_cmp q (map (λ (x : Pair). let e : Pair × Unit {0} = (x, tt) in e) ps)
        ≡ cond (list_any (eq_by_cmp pair_cmp q) ps) (Some tt) None
        → cond b (Some tt) (find_entry pair_cmp q (map (λ (x : Pair). let e : Pair × Unit {0} = (x, tt) in e) ps))
        ≡ cond (b || list_any (eq_by_cmp pair_cmp q) ps) (Some tt) None
    by true later = refl
    by false later = later

-- where there were none, there are these
pub all_put : (ps : List Pair) → put_pairs ps finite.empty ≡ set_of pair_cmp ps
all_put ps = finite.same_map pair_total pair_antisymmetric _ _ (λ q.
    get-put_pairs ps finite.empty q
    ∙ ap (cond (list_any (eq_by_cmp pair_cmp q) ps) (Some tt)) (finite.get-empty pair_cmp q)
    ∙ sym (finite.get-from_entries pair_total (map (λ (p : Pair). let e : Pair × Unit {0} = (p, tt) in e) ps) q
    ∙ found q ps))
