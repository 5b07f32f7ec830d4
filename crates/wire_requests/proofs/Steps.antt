-- Rows by their first token.
use Rattle.std.proofs.Common.{◌≡◌, ℕ, List, [], ◌∷◌, drop, get_or, Some, None, Bool, true, false, cond, ◌==◌, inl, inr}
use Rattle.std.proofs.Common.{refl, ap, ◌∙◌, arith, eq-eqb}
use Rattle.std.proofs.lemmas.Bool.Decides.{nat_tests}
use Rattle.std.proofs.lemmas.Slice.Eq.{bytes_eq-Decides}
use Rattle.matchit.specs.Rows.{RowsOf}
use Rattle.matchit.specs.Seek.{segment, same_text, own, step, with_suffix}
use Rattle.wire_requests.specs.Rows.{Has}

module _ {K : Type 0} where
  pub has_step : (x : ℕ) (t : List ℕ) (k : K) (rs : RowsOf K) → Has (x ∷ t, k) rs → Has (t, k) (step x rs)
  has_step x t k [] has = absurd has
  has_step x t k (([], l) ∷ rs) (inl e) = let h : [] ≡ x ∷ t = ap (λ r. r.0) e in cc
  has_step x t k (([], l) ∷ rs) (inr has) = has_step x t k rs has
  has_step x t k ((y ∷ u, l) ∷ rs) has = by (y == x) refl has (has_step x t k rs)
    where
      by : (v : Bool) → (y == x) ≡ v → Has (x ∷ t, k) ((y ∷ u, l) ∷ rs) → (Has (x ∷ t, k) rs → Has (t, k) (step x rs))
          → Has (t, k) (cond v ((u, l) ∷ step x rs) (step x rs))
      by true is (inl e) ih = inl (ap (λ r. (drop 1 r.0, r.1)) e)
      by true is (inr has) ih = inr (ih has)
      by false is (inl e) ih = let h : y ≡ x = ap (λ r. get_or r.0 0 0) e in let f = eq-eqb y x h in cc
      by false is (inr has) ih = ih has

  pub step_has : (x : ℕ) (t : List ℕ) (k : K) (rs : RowsOf K) → Has (t, k) (step x rs) → Has (x ∷ t, k) rs
  step_has x t k [] has = absurd has
  step_has x t k (([], l) ∷ rs) has = inr (step_has x t k rs has)
  step_has x t k ((y ∷ u, l) ∷ rs) has = by (y == x) refl has (step_has x t k rs)
    where
      by : (v : Bool) → (y == x) ≡ v → Has (t, k) (cond v ((u, l) ∷ step x rs) (step x rs))
          → (Has (t, k) (step x rs) → Has (x ∷ t, k) rs)
          → Has (x ∷ t, k) ((y ∷ u, l) ∷ rs)
      by true is (inl e) ih = let same : y ≡ x = grind (arith, nat_tests) in inl (λ i. (same i ∷ (e i).0, (e i).1))
      by true is (inr has) ih = inr (ih has)
      by false is has ih = inr (ih has)

  pub own_has : (k : K) (rs : RowsOf K) → own rs ≡ Some k → Has ([], k) rs
  own_has k [] e = let h : None ≡ Some k = e in cc
  own_has k (([], l) ∷ rs) e = let h : l ≡ k = cc in inl (λ i. ([], h i))
  own_has k ((x ∷ t, l) ∷ rs) e = inr (own_has k rs e)

  pub has_own : (k : K) (rs : RowsOf K) → Has ([], k) rs → own rs ≡ None → ⊥
  has_own k [] has e = absurd has
  has_own k (([], l) ∷ rs) has e = let h : Some l ≡ None = e in cc
  has_own k ((x ∷ t, l) ∷ rs) (inl q) e = let h : x ∷ t ≡ [] = ap (λ r. r.0) q in cc
  has_own k ((x ∷ t, l) ∷ rs) (inr has) e = has_own k rs has e

  pub suffix_has : (s t : List ℕ) (k : K) (rs : RowsOf K) → Has (t, k) (with_suffix s rs) → Has (t, k) rs
  suffix_has s t k [] has = absurd has
  suffix_has s t k ((u, l) ∷ rs) has = by (same_text (segment u) s) has (suffix_has s t k rs)
    where
      by : (v : Bool) → Has (t, k) (cond v ((u, l) ∷ with_suffix s rs) (with_suffix s rs))
          → (Has (t, k) (with_suffix s rs) → Has (t, k) rs) → Has (t, k) ((u, l) ∷ rs)
      by true (inl e) ih = inl e
      by true (inr has) ih = inr (ih has)
      by false has ih = inr (ih has)

  pub has_suffix : (s t : List ℕ) (k : K) (rs : RowsOf K) → segment t ≡ s → Has (t, k) rs
      → Has (t, k) (with_suffix s rs)
  has_suffix s t k [] is has = absurd has
  has_suffix s t k ((u, l) ∷ rs) is has = by (same_text (segment u) s) refl has (has_suffix s t k rs is)
    where
      by : (v : Bool) → same_text (segment u) s ≡ v → Has (t, k) ((u, l) ∷ rs)
          → (Has (t, k) rs → Has (t, k) (with_suffix s rs))
          → Has (t, k) (cond v ((u, l) ∷ with_suffix s rs) (with_suffix s rs))
      by true e (inl q) ih = inl q
      by true e (inr has) ih = inr (ih has)
      by false e (inl q) ih =
          let same : segment u ≡ s = ap (λ r. segment r.0) q ∙ is in
          let f = (bytes_eq-Decides (segment u) s).1 same in cc
      by false e (inr has) ih = ih has
