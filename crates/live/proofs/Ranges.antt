-- Lists of the places that pass a test, and sums over all places.
use Rattle.std.proofs.Common.{◌≡◌, ℕ, zero, suc, ◌+◌, ◌<◌, ◌≤◌, ◌&&◌, ◌||◌, Bool, true, false, cond, List, [], ◌∷◌}
use Rattle.std.proofs.Common.{◌++◌, length, get_or, map, Some, None, refl, sym, ap, ◌∙◌, inl, inr, ◌⊎◌, arith}
use Rattle.std.specs.Prelude.{sum_by, filter, find}
use Rattle.std.specs.List.{range_with_len, list_any}
use Rattle.std.proofs.lemmas.Bool.{cases_eq, false≢true, or_left, or_right}
use Rattle.std.proofs.lemmas.List.{get_or_default}
use Rattle.std.proofs.lemmas.List.Sums.{sum_by_push}

pub range_push : (a n : ℕ) → range_with_len a (n + 1) ≡ range_with_len a n ++ (a + n) ∷ []
range_push a zero = let e : a ≡ a + 0 = omega arith in ap (λ k. k ∷ []) e
range_push a (suc n) =
    let e : a + 1 + n ≡ a + suc n = omega arith in
    let f : suc n + 1 ≡ suc (n + 1) = omega arith in
    ap (range_with_len a) f ∙ ap (λ xs. a ∷ xs) (range_push (a + 1) n ∙ ap (λ k. range_with_len (a + 1) n ++ k ∷ []) e)

pub at_or_after : (a k : ℕ) → a ≤ k → (a ≡ k) ⊎ (a < k)
at_or_after a k h =
    elim (cases_eq a k) as (λ _. (a ≡ k) ⊎ (a < k)) [ inl same ↦ inl same | inr other ↦ inr (omega arith) ]

-- ---- places that pass a test, and what they stand for

module _ {X : Type 0} (f : ℕ → X) (l : ℕ → Bool) where
  find_step : (p : X → Bool) (a k : ℕ) (rest : List ℕ) (c : Bool) → l a ≡ c → (d : Bool) → p (f a) ≡ d → l k ≡ true
      → p (f k) ≡ true → (a < k → l a ≡ true → p (f a) ≡ false) → (a ≡ k) ⊎ (a < k)
      → (a < k → find p (map f rest) ≡ Some (f k)) → find p (map f (cond c (a ∷ rest) rest)) ≡ Some (f k)
  find_step p a k rest true la true pa lk pk before (inl same) more =
      ap (λ b. cond b (Some (f a)) (find p (map f rest))) pa ∙ ap (λ j. Some (f j)) same
  find_step p a k rest true la true pa lk pk before (inr less) more = absurd (false≢true (sym (before less la) ∙ pa))
  find_step p a k rest true la false pa lk pk before (inl same) more =
      absurd (false≢true (sym pa ∙ ap (λ j. p (f j)) same ∙ pk))
  find_step p a k rest true la false pa lk pk before (inr less) more =
      ap (λ b. cond b (Some (f a)) (find p (map f rest))) pa ∙ more less
  find_step p a k rest false la d pa lk pk before (inl same) more = absurd (false≢true (sym la ∙ ap l same ∙ lk))
  find_step p a k rest false la d pa lk pk before (inr less) more = more less

  pub find_at : (p : X → Bool) (a n k : ℕ) → a ≤ k → k < a + n → l k ≡ true → p (f k) ≡ true
      → ((j : ℕ) → j < k → l j ≡ true → p (f j) ≡ false) → find p (map f (filter l (range_with_len a n))) ≡ Some (f k)
  find_at p a zero k h g lk pk before = absurd (omega arith)
  find_at p a (suc n) k h g lk pk before =
      find_step p a k (filter l (range_with_len (a + 1) n)) (l a) refl (p (f a)) refl lk pk (before a)
      (at_or_after a k h)
      (λ less. find_at p (a + 1) n k (omega arith) (omega arith) lk pk before)

  none_step : (p : X → Bool) (a : ℕ) (rest : List ℕ) (c : Bool) → l a ≡ c → (l a ≡ true → p (f a) ≡ false)
      → find p (map f rest) ≡ None → find p (map f (cond c (a ∷ rest) rest)) ≡ None
  none_step p a rest true la never more = ap (λ b. cond b (Some (f a)) (find p (map f rest))) (never la) ∙ more
  none_step p a rest false la never more = more

  pub find_none : (p : X → Bool) (a n : ℕ) → ((j : ℕ) → j < a + n → l j ≡ true → p (f j) ≡ false)
      → find p (map f (filter l (range_with_len a n))) ≡ None
  find_none p a zero never = refl
  find_none p a (suc n) never =
      none_step p a (filter l (range_with_len (a + 1) n)) (l a) refl (never a (omega arith))
      (find_none p (a + 1) n (λ j h. never j (omega arith)))

  false_step : (q : X → Bool) (a : ℕ) (rest : List ℕ) (c : Bool) → l a ≡ c → (l a ≡ true → q (f a) ≡ false)
      → list_any q (map f rest) ≡ false → list_any q (map f (cond c (a ∷ rest) rest)) ≡ false
  false_step q a rest true la never more = ap (λ b. b || list_any q (map f rest)) (never la) ∙ more
  false_step q a rest false la never more = more

  pub any_false : (q : X → Bool) (a n : ℕ) → ((j : ℕ) → j < a + n → l j ≡ true → q (f j) ≡ false)
      → list_any q (map f (filter l (range_with_len a n))) ≡ false
  any_false q a zero never = refl
  any_false q a (suc n) never =
      false_step q a (filter l (range_with_len (a + 1) n)) (l a) refl (never a (omega arith))
      (any_false q (a + 1) n (λ j h. never j (omega arith)))

  true_here : (q : X → Bool) (a k : ℕ) (rest : List ℕ) (c : Bool) → l a ≡ c → l k ≡ true → q (f k) ≡ true
      → (a ≡ k) ⊎ (a < k) → (a < k → list_any q (map f rest) ≡ true)
      → list_any q (map f (cond c (a ∷ rest) rest)) ≡ true
  true_here q a k rest true la lk qk (inl same) more =
      or_left (q (f a)) (list_any q (map f rest)) (ap (λ j. q (f j)) same ∙ qk)
  true_here q a k rest true la lk qk (inr less) more = or_right (q (f a)) (list_any q (map f rest)) (more less)
  true_here q a k rest false la lk qk (inl same) more = absurd (false≢true (sym la ∙ ap l same ∙ lk))
  true_here q a k rest false la lk qk (inr less) more = more less

  pub any_true : (q : X → Bool) (a n k : ℕ) → a ≤ k → k < a + n → l k ≡ true → q (f k) ≡ true
      → list_any q (map f (filter l (range_with_len a n))) ≡ true
  any_true q a zero k h g lk qk = absurd (omega arith)
  any_true q a (suc n) k h g lk qk =
      true_here q a k (filter l (range_with_len (a + 1) n)) (l a) refl lk qk (at_or_after a k h)
      (λ less. any_true q (a + 1) n k (omega arith) (omega arith) lk qk)

  filter_step : (q : X → Bool) (a : ℕ) (rest more : List ℕ) (c d : Bool) → l a ≡ c → q (f a) ≡ d
      → filter q (map f rest) ≡ map f more
      → filter q (map f (cond c (a ∷ rest) rest)) ≡ map f (cond (c && d) (a ∷ more) more)
  filter_step q a rest more true true la qa e =
      ap (λ b. cond b (f a ∷ filter q (map f rest)) (filter q (map f rest))) qa ∙ ap (λ xs. f a ∷ xs) e
  filter_step q a rest more true false la qa e =
      ap (λ b. cond b (f a ∷ filter q (map f rest)) (filter q (map f rest))) qa ∙ e
  filter_step q a rest more false d la qa e = e

  pub filter_at : (q : X → Bool) (a n : ℕ)
      → filter q (map f (filter l (range_with_len a n))) ≡ map f (filter (λ i. l i && q (f i)) (range_with_len a n))
  filter_at q a zero = refl
  filter_at q a (suc n) =
      filter_step q a (filter l (range_with_len (a + 1) n)) (filter (λ i. l i && q (f i)) (range_with_len (a + 1) n))
      (l a) (q (f a)) refl refl (filter_at q (a + 1) n)

-- ---- sums over all places

pub total : (g : ℕ → ℕ) (n : ℕ) → sum_by g (range_with_len 0 (suc n)) ≡ sum_by g (range_with_len 0 n) + g n
total g n =
    let e : suc n ≡ n + 1 = omega arith in
    let z : 0 + n ≡ n = omega arith in
    ap (λ k. sum_by g (range_with_len 0 k)) e ∙ ap (sum_by g) (range_push 0 n)
    ∙ sum_by_push g (range_with_len 0 n) (0 + n) ∙ ap (λ k. sum_by g (range_with_len 0 n) + g k) z

pub one_at_most : (g : ℕ → ℕ) (n q : ℕ) → q < n → g q ≤ sum_by g (range_with_len 0 n)
one_at_most g zero q h = absurd (omega arith)
one_at_most g (suc n) q h = elim (cases_eq q n) as (λ _. g q ≤ sum_by g (range_with_len 0 (suc n))) [
  | inl same ↦ (let t = total g n in let e = ap g same in omega (arith, t, e))
  | inr other ↦ (let t = total g n in let r = one_at_most g n q (omega arith) in omega (arith, t, r))
]

positive_step : (g : ℕ → ℕ) (n k : ℕ) → g n ≡ k → 0 < sum_by g (range_with_len 0 n) + k
    → (0 < sum_by g (range_with_len 0 n) → (q : ℕ) × (q < n) × (0 < g q)) → (q : ℕ) × (q < suc n) × (0 < g q)
positive_step g n zero e h more = (let r = more (omega arith) in (r.0, (let l = r.1 in omega arith), r.2))
positive_step g n (suc k) e h more = (n, omega arith, omega (arith, e))

pub some_positive : (g : ℕ → ℕ) (n : ℕ) → 0 < sum_by g (range_with_len 0 n) → (q : ℕ) × (q < n) × (0 < g q)
some_positive g zero h = absurd (omega arith)
some_positive g (suc n) h = positive_step g n (g n) refl (let t = total g n in omega (arith, t, h)) (some_positive g n)

pub all_same : (g h : ℕ → ℕ) (n : ℕ) → ((q : ℕ) → q < n → g q ≡ h q)
    → sum_by g (range_with_len 0 n) ≡ sum_by h (range_with_len 0 n)
all_same g h zero same = refl
all_same g h (suc n) same =
    let t = total g n in let u = total h n in let r = all_same g h n (λ q l. same q (omega arith)) in let e =
    same n (omega arith) in omega (arith, t, u, r, e)

pub one_changed : (g h : ℕ → ℕ) (n p : ℕ) → p < n → ((q : ℕ) → (q ≡ p → ⊥) → g q ≡ h q)
    → sum_by g (range_with_len 0 n) + h p ≡ sum_by h (range_with_len 0 n) + g p
one_changed g h zero p l same = absurd (omega arith)
one_changed g h (suc n) p l same =
    elim (cases_eq p n) as (λ _. sum_by g (range_with_len 0 (suc n)) + h p
    ≡ sum_by h (range_with_len 0 (suc n)) + g p) [
      | inl e ↦ (let t = total g n in let u = total h n in
          let r = all_same g h n (λ q k. same q (λ x. absurd (omega arith))) in let x = ap g e in let y = ap h e in
          omega (arith, t, u, r, x, y))
      | inr e ↦ (let t = total g n in let u = total h n in let r = one_changed g h n p (omega arith) same in
          let s = same n (λ x. e (sym x)) in omega (arith, t, u, r, s))
    ]

-- what a read of a list of marks says
pub read_is : (marks inside : List Bool) (i : ℕ) (x b : Bool) → inside ≡ marks → i < length inside
    → x ≡ get_or inside i x → x ≡ b → get_or marks i false ≡ b
read_is marks inside i x b same h at is =
    ap (λ (ms : List Bool). get_or ms i false) (sym same) ∙ get_or_default inside i false x h ∙ sym at ∙ is
