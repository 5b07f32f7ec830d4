-- How often a place is among places.
use Rattle.std.proofs.Common.{◌≡◌, ℕ, ◌+◌, ◌==◌, Bool, true, false, cond, List, [], ◌∷◌, ◌++◌, refl, sym, ap, inl, inr}
use Rattle.std.proofs.Common.{arith}
use Rattle.std.specs.Prelude.{Contains, if◌then◌else◌}
use Rattle.std.proofs.lemmas.Bool.{cases_eq, cases_lt, eq-eqb, ne_eqb}
use Rattle.std.proofs.lemmas.List.Sums.{sum_by-append}
use Rattle.live.specs.Sources.{times_among}
use Rattle.live.proofs.References.{counted_in}

pub times_append : (xs ys : List ℕ) (t : ℕ) → times_among (xs ++ ys) t ≡ times_among xs t + times_among ys t
times_append xs ys t = sum_by-append (λ x. cond (x == t) 1 0) xs ys

pub times_where : (b : Bool) (xs ys : List ℕ) (t u : ℕ) → times_among xs t ≡ times_among ys u
    → times_among (if b then xs else []) t ≡ times_among (if b then ys else []) u
times_where true xs ys t u e = e
times_where false xs ys t u e = refl

pub sum_where : (b : Bool) (m n s : ℕ) → s ≡ m + n
    → ◌≡◌ {A = ℕ} (if b then s else 0) ((if b then m else 0) + (if b then n else 0))
sum_where true m n s e = e
sum_where false m n s e = omega arith

pub none_where : (b : Bool) (n : ℕ) → n ≡ 0 → ◌≡◌ {A = ℕ} (if b then n else 0) 0
none_where true n e = e
none_where false n e = refl

-- one source that is noted at one end
pub one_time : (source target k x : ℕ) → k ≡ target
    → times_among (source ∷ []) x ≡ (if x == source then times_among (target ∷ []) k else 0)
one_time source target k x same =
    let r : ◌≡◌ {A = ℕ} (cond (target == k) 1 0) 1 = ap (λ b. cond b 1 0) (eq-eqb target k (sym same)) in
    elim (cases_eq x source) as (λ _. times_among (source ∷ []) x
    ≡ (if x == source then times_among (target ∷ []) k else 0)) [
      | inl e ↦ (
          let p : ◌≡◌ {A = ℕ} (cond (source == x) 1 0) 1 = ap (λ b. cond b 1 0) (eq-eqb source x (sym e)) in
          let q : ◌≡◌ {A = ℕ} (if x == source then times_among (target ∷ []) k else 0) (times_among (target ∷ []) k) =
          ap (λ (b : Bool). if b then times_among (target ∷ []) k else 0) (eq-eqb x source e) in
          omega (arith, p, q, r))
      | inr d ↦ (
          let p : ◌≡◌ {A = ℕ} (cond (source == x) 1 0) 0 = ap (λ b. cond b 1 0) (ne_eqb source x (λ f. d (sym f))) in
          let q : ◌≡◌ {A = ℕ} (if x == source then times_among (target ∷ []) k else 0) 0 =
          ap (λ (b : Bool). if b then times_among (target ∷ []) k else 0) (ne_eqb x source d) in
          omega (arith, p, q))
    ]

pub no_time : (source target k x : ℕ) → (k ≡ target → ⊥)
    → ◌≡◌ {A = ℕ} (if x == source then times_among (target ∷ []) k else 0) 0
no_time source target k x other =
    let r : ◌≡◌ {A = ℕ} (cond (target == k) 1 0) 0 = ap (λ b. cond b 1 0) (ne_eqb target k (λ f. other (sym f))) in
    none_where (x == source) (times_among (target ∷ []) k) (omega (arith, r))

-- what is not among places is there no time
pub never : (xs : List ℕ) (t : ℕ) → (Contains xs t → ⊥) → times_among xs t ≡ 0
never xs t absent = elim (cases_lt 0 (times_among xs t)) as (λ _. times_among xs t ≡ 0) [
  | inl some ↦ absurd (absent (counted_in t xs some))
  | inr none ↦ omega arith
]
