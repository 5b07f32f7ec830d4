-- Finite maps after a change, at the key and next to it.
use Rattle.std.proofs.Common.{◌≡◌, false, cond, Some, None, ap, ◌∙◌}
use Rattle.std.specs.Prelude.{is_some, IsFalse}
use Rattle.std.specs.declared.cmp.Ordering.{Ordering}
use Rattle.std.specs.Ordering.{eq_by_cmp, is_eq}
use Rattle.std.specs.Cmp.{IsTotalOrder, tied_itself}
use Rattle.std.specs.FinMap as finite
use Rattle.std.proofs.lemmas.Bool.{false_from_ne_true}
use Rattle.model.proofs.MapMembers.{tied_is}

apart : {K : Type 0} {R : K → K → Ordering} → finite.IsAntisymmetric R → (q k : K) → (q ≡ k → ⊥)
    → eq_by_cmp R q k ≡ false
apart {K} {R} same q k other = false_from_ne_true (eq_by_cmp R q k) (λ t. other (tied_is same q k t))

module _ {K X : Type 0} {R : K → K → Ordering} (o : IsTotalOrder R) (same : finite.IsAntisymmetric R) where
  pub at_inserted : (m : finite.FinMap R X) (k : K) (v : X) → finite.get (finite.insert m k v) k ≡ Some v
  at_inserted m k v =
      finite.get-insert o m k v k ∙ ap (λ b. cond b (Some v) (finite.get m k)) (ap is_eq (tied_itself o k))

  pub next_to_inserted : (m : finite.FinMap R X) (k : K) (v : X) (q : K) → (q ≡ k → ⊥)
      → finite.get (finite.insert m k v) q ≡ finite.get m q
  next_to_inserted m k v q other =
      finite.get-insert o m k v q ∙ ap (λ b. cond b (Some v) (finite.get m q)) (apart same q k other)

  pub at_removed : (m : finite.FinMap R X) (k : K) → IsFalse (finite.contains_key (finite.remove m k) k)
  at_removed m k =
      ap is_some (finite.get-remove o m k k)
      ∙ ap (λ b. is_some (cond b None (finite.get m k))) (ap is_eq (tied_itself o k))

  pub next_to_removed : (m : finite.FinMap R X) (k q : K) → (q ≡ k → ⊥)
      → finite.get (finite.remove m k) q ≡ finite.get m q
  next_to_removed m k q other =
      finite.get-remove o m k q ∙ ap (λ b. cond b None (finite.get m q)) (apart same q k other)
