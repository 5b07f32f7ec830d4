-- Changes of one entry of a tree.
use Rattle.std.proofs.Common.{◌≡◌, List, [], ◌∷◌, Bool, true, false, cond, Some, Option, is_some, refl, sym, ap, ◌∙◌}
use Rattle.std.specs.Prelude.{option_map, Result, Ok, Err, OnOk, OnErr, IsErrAnd}
use Rattle.std.specs.declared.cmp.Ordering.{Ordering}
use Rattle.std.specs.Ordering.{eq_by_cmp}
use Rattle.std.specs.Cmp.{IsTotalOrder, eq_by_cmp_equiv}
use Rattle.std.specs.Map.{lookup, set_value}
use Rattle.std.specs.FinMap as finite
use Rattle.std.proofs.lemmas.Bool.{false≢true}
use Rattle.tables_outline.proofs.Puts.{tied_is}
use Rattle.tables_outline.specs.Maps.{seen_map}
use Rattle.tables_outline.proofs.Trees.{get_seen}

-- a value that is there already is put
pub insert_same : {K X : Type 0} {R : K → K → Ordering} → IsTotalOrder R → finite.IsAntisymmetric R
    → (m : finite.FinMap R X) (k : K) (v : X) → finite.get m k ≡ Some v → finite.insert m k v ≡ m
insert_same {R = R} o same m k v e =
    finite.same_map o same _ _ (λ q. finite.get-insert o m k v q ∙ at q (eq_by_cmp R q k) refl)
  where
    at : (q : _) (b : Bool) → eq_by_cmp R q k ≡ b → cond b (Some v) (finite.get m q) ≡ finite.get m q
    at q true t = sym e ∙ ap (finite.get m) (sym (tied_is same q k t))
    at q false t = refl

module _ {K X L Y : Type 0} (R : L → L → Ordering) (key : K → L) (value : X → Y) (o : IsTotalOrder R) where
  first_of_two : (b : Bool) (x y : Option X) (z : Option X) → cond b x z ≡ cond b x (cond b y z)
  first_of_two true x y z = refl
  first_of_two false x y z = refl

  in_turn : (a b : Bool) (x y z : Option X) → (a ≡ true → b ≡ true → ⊥) → cond a x (cond b y z) ≡ cond b y (cond a x z)
  in_turn true true x y z apart = absurd (apart refl refl)
  in_turn true false x y z apart = refl
  in_turn false b x y z apart = refl

  set_at : (k q : L) (es : List (K × X)) (x : X) → is_some (lookup (λ y. eq_by_cmp R k (key y)) es) ≡ true
      → lookup (λ y. eq_by_cmp R q (key y)) (set_value (λ y. eq_by_cmp R k (key y)) es x)
      ≡ cond (eq_by_cmp R q k) (Some x) (lookup (λ y. eq_by_cmp R q (key y)) es)
  set_at k q [] x present = absurd (false≢true present)
  set_at k q (e ∷ es) x present = by (eq_by_cmp R k (key e.0)) refl present (set_at k q es x)
    where
      by : (b : Bool) → eq_by_cmp R k (key e.0) ≡ b
          → is_some (cond b (Some e.1) (lookup (λ y. eq_by_cmp R k (key y)) es)) ≡ true
          → (is_some (lookup (λ y. eq_by_cmp R k (key y)) es) ≡ true
          → lookup (λ y. eq_by_cmp R q (key y)) (set_value (λ y. eq_by_cmp R k (key y)) es x)
          ≡ cond (eq_by_cmp R q k) (Some x) (lookup (λ y. eq_by_cmp R q (key y)) es))
          → lookup (λ y. eq_by_cmp R q (key y))
          (cond b ((e.0, x) ∷ es) (e ∷ set_value (λ y. eq_by_cmp R k (key y)) es x))
          ≡ cond (eq_by_cmp R q k) (Some x)
          (cond (eq_by_cmp R q (key e.0)) (Some e.1) (lookup (λ y. eq_by_cmp R q (key y)) es))
      by true h t later =
          let same : eq_by_cmp R q (key e.0) ≡ eq_by_cmp R q k =
          (eq_by_cmp_equiv o).symm q (key e.0) ∙ sym ((eq_by_cmp_equiv o).congr k (key e.0) q h)
          ∙ (eq_by_cmp_equiv o).symm k q in
          ap (λ b. cond b (Some x) (lookup (λ y. eq_by_cmp R q (key y)) es)) same
          ∙ first_of_two (eq_by_cmp R q k) (Some x) (Some e.1) (lookup (λ y. eq_by_cmp R q (key y)) es)
          ∙ ap (λ b. cond (eq_by_cmp R q k) (Some x) (cond b (Some e.1) (lookup (λ y. eq_by_cmp R q (key y)) es)))
          (sym same)
      by false h t later =
          ap (cond (eq_by_cmp R q (key e.0)) (Some e.1)) (later t)
          ∙ in_turn (eq_by_cmp R q (key e.0)) (eq_by_cmp R q k) (Some e.1) (Some x)
          (lookup (λ y. eq_by_cmp R q (key y)) es)
          (λ a b. false≢true (sym h ∙ sym ((eq_by_cmp_equiv o).congr q k (key e.0) b) ∙ a))

  -- a value is written at a key that is there
  pub written : finite.IsAntisymmetric R → (es : List (K × X)) (k : L) (x : X)
      → is_some (lookup (λ y. eq_by_cmp R k (key y)) es) ≡ true
      → seen_map R key value (set_value (λ y. eq_by_cmp R k (key y)) es x)
      ≡ finite.insert (seen_map R key value es) k (value x)
  written same es k x present = finite.same_map o same _ _ (λ q.
      get_seen R key value o same (set_value (λ y. eq_by_cmp R k (key y)) es x) q
      ∙ ap (option_map value) (set_at k q es x present)
      ∙ mapped (eq_by_cmp R q k) (lookup (λ y. eq_by_cmp R q (key y)) es)
      ∙ sym (finite.get-insert o (seen_map R key value es) k (value x) q
      ∙ ap (cond (eq_by_cmp R q k) (Some (value x))) (get_seen R key value o same es q)))
    where
      mapped : (b : Bool) (r : Option X)
          → option_map value (cond b (Some x) r) ≡ cond b (Some (value x)) (option_map value r)
      mapped true r = refl
      mapped false r = refl

-- a fact that holds whatever is returned
pub on_err : {A E P : Type 0} (r : Result A E) → P → OnErr r P
on_err (Ok a) p = tt
on_err (Err e) p = p

-- an error is no answer, whatever is said of an answer
pub not_ok : {A E : Type 0} (r : Result A E) (P : Type 0) (Q : E → Type 0) → IsErrAnd r Q → OnOk r P
not_ok (Ok a) P Q h = absurd h
not_ok (Err e) P Q h = tt
