-- Maps whose values are known by key and value.
use Rattle.std.proofs.Common.{◌≡◌, List, [], ◌∷◌, map, Bool, true, false, cond, Some, None, Option, option_map, is_some}
use Rattle.std.proofs.Common.{refl, sym, ap, ◌∙◌}
use Rattle.std.specs.declared.cmp.Ordering.{Ordering}
use Rattle.std.specs.Ordering.{eq_by_cmp}
use Rattle.std.specs.Cmp.{IsTotalOrder}
use Rattle.std.specs.FinMap as finite
use Rattle.std.specs.FinMap.Entries.{find as find_entry}
use Rattle.tables_outline.proofs.Puts.{tied_is}

module _ {K X Y : Type 0} {R : K → K → Ordering} (o : IsTotalOrder R) (alike : finite.IsAntisymmetric R)
    (f : K → X → Y) where
  abbrev pub reported : finite.FinMap R X → finite.FinMap R Y
  reported m = finite.from_entries (map (λ e. (e.0, f e.0 e.1)) (finite.entries m))

  find-reported : (q : K) (es : List (K × X))
      → find_entry R q (map (λ e. (e.0, f e.0 e.1)) es) ≡ option_map (f q) (find_entry R q es)
  find-reported q [] = refl
  find-reported q (e ∷ es) = by (eq_by_cmp R q e.0) refl (find-reported q es)
    where
      by : (b : Bool) → eq_by_cmp R q e.0 ≡ b
          → find_entry R q (map (λ e. (e.0, f e.0 e.1)) es) ≡ option_map (f q) (find_entry R q es)
          → cond b (Some (f e.0 e.1)) (find_entry R q (map (λ e. (e.0, f e.0 e.1)) es))
          ≡ option_map (f q) (cond b (Some e.1) (find_entry R q es))
      by true t later = ap (λ k. Some (f k e.1)) (sym (tied_is alike q e.0 t))
      by false t later = later

  pub get-reported : (m : finite.FinMap R X) (q : K) → finite.get (reported m) q ≡ option_map (f q) (finite.get m q)
  get-reported m q =
      finite.get-from_entries o (map (λ e. (e.0, f e.0 e.1)) (finite.entries m)) q ∙ find-reported q (finite.entries m)
      ∙ ap (option_map (f q)) (sym (finite.get-entries m q))

  pub has-reported : (m : finite.FinMap R X) (q : K) → finite.contains_key (reported m) q ≡ finite.contains_key m q
  has-reported m q = ap is_some (get-reported m q) ∙ some (finite.get m q)
    where
      some : (r : Option X) → is_some (option_map (f q) r) ≡ is_some r
      some None = refl
      some (Some x) = refl

  pub reported_insert : (m : finite.FinMap R X) (k : K) (x : X)
      → reported (finite.insert m k x) ≡ finite.insert (reported m) k (f k x)
  reported_insert m k x = finite.same_map o alike _ _ (λ q.
      get-reported (finite.insert m k x) q ∙ ap (option_map (f q)) (finite.get-insert o m k x q)
      ∙ by q (eq_by_cmp R q k) refl (finite.get m q)
      ∙ sym (finite.get-insert o (reported m) k (f k x) q
      ∙ ap (cond (eq_by_cmp R q k) (Some (f k x))) (get-reported m q)))
    where
      by : (q : K) (b : Bool) → eq_by_cmp R q k ≡ b → (g : Option X)
          → option_map (f q) (cond b (Some x) g) ≡ cond b (Some (f k x)) (option_map (f q) g)
      by q true t g = ap (λ j. Some (f j x)) (tied_is alike q k t)
      by q false t g = refl
