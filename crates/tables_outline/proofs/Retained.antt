-- Keys that are taken away, one after another.
use Rattle.std.proofs.Common.{◌≡◌, List, [], ◌∷◌, Bool, true, false, ◌||◌, not, cond, None, Option, refl, sym, ap}
use Rattle.std.proofs.Common.{◌∙◌}
use Rattle.std.specs.declared.cmp.Ordering.{Ordering}
use Rattle.std.specs.Cmp.{IsTotalOrder}
use Rattle.std.specs.FinMap as finite
use Rattle.live.specs.Graph.{same, holds}
use Rattle.model.specs.World.{Path}
use Rattle.tables_outline.proofs.Puts.{get-kept}

module _ {K X : Type 0} {R : K → K → Ordering} (o : IsTotalOrder R) (alike : finite.IsAntisymmetric R)
    (part : K → Path) where
  pub none_gone : (m : finite.FinMap R X) → finite.retain_keys m (λ k. not (holds [] (part k))) ≡ m
  none_gone m = finite.same_map o alike _ _ (λ q. get-kept o alike m (λ k. not (holds [] (part k))) q)

  pub one_more : (m : finite.FinMap R X) (p : Path) (ps : List Path)
      → finite.retain_keys (finite.retain_keys m (λ k. not (same (part k) p))) (λ k. not (holds ps (part k)))
      ≡ finite.retain_keys m (λ k. not (holds (p ∷ ps) (part k)))
  one_more m p ps = finite.same_map o alike _ _ (λ q.
      get-kept o alike (finite.retain_keys m (λ k. not (same (part k) p))) (λ k. not (holds ps (part k))) q
      ∙ ap (λ g. cond (not (holds ps (part q))) g None) (get-kept o alike m (λ k. not (same (part k) p)) q)
      ∙ by (same (part q) p) (holds ps (part q)) (finite.get m q)
      ∙ sym (get-kept o alike m (λ k. not (holds (p ∷ ps) (part k))) q))
    where
      by : (a b : Bool) (g : Option X) → cond (not b) (cond (not a) g None) None ≡ cond (not (a || b)) g None
      by true true g = refl
      by true false g = refl
      by false true g = refl
      by false false g = refl
