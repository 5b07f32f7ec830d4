-- Values that are put into finite maps, over others or over none, and taken back.
use Rattle.std.proofs.Common.{◌≡◌, List, [], ◌∷◌, Bool, true, false, not, cond, Some, None, Option, option_map, is_some}
use Rattle.std.proofs.Common.{refl, sym, ap, ◌∙◌}
use Rattle.std.specs.declared.cmp.Ordering.{Ordering}
use Rattle.std.specs.Ordering.{eq_by_cmp}
use Rattle.std.specs.Cmp.{IsTotalOrder, Equal-is, eq_by_cmp_equiv}
use Rattle.std.specs.FinMap as finite
use Rattle.std.specs.Map.{update, update_all}
use Rattle.tables_outline.specs.Maps.{unput, put_all}

pub tied_is : {K : Type 0} {R : K → K → Ordering} → finite.IsAntisymmetric R → (k j : K) → eq_by_cmp R k j ≡ true
    → k ≡ j
tied_is {K} {R} same k j h = same k j ((Equal-is (R k j)).0 h)

module _ {K X : Type 0} {R : K → K → Ordering} (o : IsTotalOrder R) (same : finite.IsAntisymmetric R) where
  pub get-kept : (m : finite.FinMap R X) (p : K → Bool) (q : K)
      → finite.get (finite.retain_keys m p) q ≡ cond (p q) (finite.get m q) None
  get-kept m p q = finite.get-retain_keys m p q (λ x e. ap p (sym (same q x e)))

  -- what was there is deleted, and the value is put
  pub put_over : (m : finite.FinMap R X) (k : K) (v : X)
      → finite.insert (finite.retain_keys m (λ x. not (eq_by_cmp R x k))) k v ≡ finite.insert m k v
  put_over m k v = finite.same_map o same _ _ (λ q.
      finite.get-insert o (finite.retain_keys m (λ x. not (eq_by_cmp R x k))) k v q
      ∙ ap (cond (eq_by_cmp R q k) (Some v)) (get-kept m (λ x. not (eq_by_cmp R x k)) q)
      ∙ by (eq_by_cmp R q k) (finite.get m q)
      ∙ sym (finite.get-insert o m k v q))
    where
      by : (b : Bool) (g : Option X) → cond b (Some v) (cond (not b) g None) ≡ cond b (Some v) g
      by true g = refl
      by false g = refl

  -- a value that was put is deleted, and what was there comes back
  pub unput_put : (m : finite.FinMap R X) (k : K) (v : X) (had : Option X) → had ≡ finite.get m k
      → unput (finite.insert m k v) k had ≡ m
  unput_put m k v None is = finite.same_map o same _ _ (λ q.
      finite.get-remove o (finite.insert m k v) k q ∙ ap (cond (eq_by_cmp R q k) None) (finite.get-insert o m k v q)
      ∙ by q (eq_by_cmp R q k) refl)
    where
      by : (q : K) (b : Bool) → eq_by_cmp R q k ≡ b → cond b None (cond b (Some v) (finite.get m q)) ≡ finite.get m q
      by q true t = is ∙ ap (finite.get m) (sym (tied_is same q k t))
      by q false t = refl
  unput_put m k v (Some x) is = finite.same_map o same _ _ (λ q.
      finite.get-insert o (finite.insert m k v) k x q
      ∙ ap (cond (eq_by_cmp R q k) (Some x)) (finite.get-insert o m k v q) ∙ by q (eq_by_cmp R q k) refl)
    where
      by : (q : K) (b : Bool) → eq_by_cmp R q k ≡ b
          → cond b (Some x) (cond b (Some v) (finite.get m q)) ≡ finite.get m q
      by q true t = is ∙ ap (finite.get m) (sym (tied_is same q k t))
      by q false t = refl

  -- a key that was put is there
  pub has_put : (m : finite.FinMap R X) (k : K) (v : X) → finite.contains_key (finite.insert m k v) k ≡ true
  has_put m k v =
      ap is_some (finite.get-insert o m k v k)
      ∙ ap (λ b. is_some (cond b (Some v) (finite.get m k))) ((eq_by_cmp_equiv o).refl k)

-- an option whose value stays
pub option_same : {X : Type 0} (o : Option X) → option_map (λ x. x) o ≡ o
option_same None = refl
option_same (Some x) = refl

module _ {K X : Type 0} {R : K → K → Ordering} (o : IsTotalOrder R) (same : finite.IsAntisymmetric R) where
  -- a key that was taken away isn't there
  pub get-removed : (m : finite.FinMap R X) (k : K)
      → finite.get (finite.retain_keys m (λ x. not (eq_by_cmp R x k))) k ≡ None
  get-removed m k =
      get-kept o same m (λ x. not (eq_by_cmp R x k)) k
      ∙ ap (λ b. cond (not b) (finite.get m k) None) ((eq_by_cmp_equiv o).refl k)

  -- a key is taken away by a test of the others
  pub retained : (m : finite.FinMap R X) (k : K) → finite.retain_keys m (λ x. not (eq_by_cmp R x k)) ≡ finite.remove m k
  retained m k =
      finite.same_map o same _ _ (λ q. get-kept o same m (λ x. not (eq_by_cmp R x k)) q
      ∙ by (eq_by_cmp R q k) (finite.get m q) ∙ sym (finite.get-remove o m k q))
    where
      by : (b : Bool) (g : Option X) → cond (not b) g None ≡ cond b None g
      by true g = refl
      by false g = refl

  -- what is found among entries that are put one after another
  pub get-all : (es : List (K × X)) (m : finite.FinMap R X) (f : K → Option X) (q : K) → finite.get m q ≡ f q
      → finite.get (put_all es m) q ≡ update_all (eq_by_cmp R) f es q
  get-all [] m f q is = is
  get-all (e ∷ es) m f q is = get-all es (finite.insert m e.0 e.1) (update (eq_by_cmp R) f e.0 (Some e.1)) q (
      finite.get-insert o m e.0 e.1 q ∙ ap (cond (eq_by_cmp R q e.0) (Some e.1)) is
      ∙ ap (λ b. cond b (Some e.1) (f q)) ((eq_by_cmp_equiv o).symm q e.0))
