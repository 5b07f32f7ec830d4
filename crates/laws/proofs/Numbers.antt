-- The highest generation of a profile, and the one before the current.
use Rattle.std.proofs.Common.{◌≡◌, ℕ, ◌+◌, ◌<◌, ◌≤◌, List, [], ◌∷◌, Bool, true, false, Some, None, Option, refl, sym}
use Rattle.std.proofs.Common.{ap, arith, ◌∙◌, IsTrue, subst, inl, inr, ◌⊎◌}
use Rattle.std.specs.Prelude.{Contains, is_some, IsFalse, nat_lt, unwrap_or, if◌then◌else◌}
use Rattle.std.specs.List.{filter, last_or}
use Rattle.std.specs.List.Sorted.{IsStrictlySortedBy}
use Rattle.std.specs.Ordering.{nat_cmp}
use Rattle.std.specs.declared.cmp.Ordering.TheVariants.{Less}
use Rattle.std.specs.Cmp.{nat_cmp_total, ranked}
use Rattle.std.specs.FinMap as finite
use Rattle.std.proofs.lemmas.Bool.{false≢true, ltb-true, ltb-false, lt-ltb}
use Rattle.std.proofs.lemmas.Option.{same_Some}
use Rattle.std.proofs.lemmas.List.Kept.{IsStrictlySortedBy-filter}
use Rattle.live.proofs.Members.{at_head, behind, cases, no_member}
use Rattle.live.proofs.Reach.{same_is, same_itself}
use Rattle.model.specs.World.{Path, Profile}
use Rattle.model.specs.Profiles.{has_generation, numbers, highest, is_path, is_highest, number_for, previous}
use Rattle.laws.specs.Generations.{IsHighest, IsNumberFor, again, next, first, IsPrevious}
use Rattle.model.proofs.MapMembers.{nat_antisymmetric, key_listed, listed_key}
use Rattle.model.proofs.Filtered.{in_filtered, from_filtered}
use Rattle.laws.proofs.Freed.{keys_rise}

-- ---- the last of a list that rises

greatest_after : (x : ℕ) (xs : List ℕ) (n : ℕ) → IsStrictlySortedBy nat_cmp (x ∷ xs) → last_or (Some x) xs ≡ Some n
    → (x ≤ n) × ((y : ℕ) → Contains xs y → y ≤ n)
unfolding IsStrictlySortedBy
greatest_after x [] n rise e =
    (let same : x ≡ n = same_Some x n e in omega (arith, same), λ y c. absurd (no_member y c))
greatest_after x (z ∷ zs) n rise e =
    let later = greatest_after z zs n rise.1 e in
    let less : x < z = ranked x z Less (sym rise.0.0) in (
      omega (arith, less, later.0),
      λ y c. elim (cases z y zs c) as (λ _. y ≤ n) [
        | inl same ↦ subst (λ (u : ℕ). u ≤ n) same later.0
        | inr behind ↦ later.1 y behind
      ],
    )

last_present : (x : ℕ) (xs : List ℕ) → is_some (last_or (Some x) xs) ≡ true
last_present x [] = refl
last_present x (z ∷ zs) = last_present z zs

last_greatest : (xs : List ℕ) (n : ℕ) → IsStrictlySortedBy nat_cmp xs → last_or None xs ≡ Some n → (y : ℕ)
    → Contains xs y → y ≤ n
unfolding IsStrictlySortedBy
last_greatest [] n rise e y c = absurd (no_member y c)
last_greatest (x ∷ xs) n rise e y c =
    let all = greatest_after x xs n rise e in
    elim (cases x y xs c) as (λ _. y ≤ n) [
      | inl same ↦ subst (λ (u : ℕ). u ≤ n) same all.0
      | inr behind ↦ all.1 y behind
    ]

last_none : (xs : List ℕ) → last_or None xs ≡ None → (y : ℕ) → Contains xs y → ⊥
last_none [] e y c = no_member y c
last_none (x ∷ xs) e y c = false≢true (sym (ap is_some e) ∙ last_present x xs)

last_after : (x : ℕ) (xs : List ℕ) (n : ℕ) → last_or (Some x) xs ≡ Some n → (x ≡ n) ⊎ Contains xs n
last_after x [] n e = inl (same_Some x n e)
last_after x (z ∷ zs) n e = elim (last_after z zs n e) as (λ _. (x ≡ n) ⊎ Contains (z ∷ zs) n) [
  | inl same ↦ inr (subst (λ u. Contains (z ∷ zs) u) same (at_head z zs))
  | inr later ↦ inr (behind z n zs later)
]

last_in : (xs : List ℕ) (n : ℕ) → last_or None xs ≡ Some n → Contains xs n
last_in [] n e = absurd (false≢true (ap is_some e))
last_in (x ∷ xs) n e = elim (last_after x xs n e) as (λ _. Contains (x ∷ xs) n) [
  | inl same ↦ subst (λ u. Contains (x ∷ xs) u) same (at_head x xs)
  | inr later ↦ behind x n xs later
]

-- ---- generations

module _ (p : Profile) where
  none_present : last_or None (numbers p) ≡ None → (m : ℕ) → IsFalse (has_generation p m)
  none_present e m = by (has_generation p m) refl
    where
      by : (b : Bool) → has_generation p m ≡ b → IsFalse b
      by true h = absurd (last_none (numbers p) e m (key_listed nat_antisymmetric p.generations m h))
      by false h = refl

  is_top : (n : ℕ) → last_or None (numbers p) ≡ Some n → IsHighest p n
  is_top n e = record {
    present = listed_key nat_cmp_total p.generations n (last_in (numbers p) n e);
    greatest =
        λ m h. last_greatest (numbers p) n (keys_rise nat_cmp p.generations) e m
        (key_listed nat_antisymmetric p.generations m h);
  }

  highest_top : (n : ℕ) → last_or None (numbers p) ≡ Some n → IsHighest p (highest p)
  highest_top n e = subst (λ (o : Option ℕ). IsHighest p (unwrap_or o 0)) (sym e) (is_top n e)

  module _ (t : Path) where
    at_path : (o : Option Path) → is_path o t ≡ true → o ≡ Some t
    at_path None h = absurd (false≢true h)
    at_path (Some q) h = ap Some (same_is q t h)

    not_at_path : is_highest p t ≡ false → finite.get p.generations (highest p) ≡ Some t → ⊥
    not_at_path h e = false≢true (sym h ∙ ap (λ o. is_path o t) e ∙ same_itself t)

    pub highest_path : is_highest p t ≡ true → finite.get p.generations (highest p) ≡ Some t
    highest_path h = at_path (finite.get p.generations (highest p)) h

    by_last : (o : Option ℕ) → last_or None (numbers p) ≡ o → (b : Bool) → is_highest p t ≡ b
        → IsNumberFor p t (if b then highest p else highest p + 1)
    by_last (Some n) e true h = again (highest_top n e) (highest_path h)
    by_last (Some n) e false h = next (highest p) (highest_top n e) (not_at_path h) refl
    by_last None e true h = absurd (false≢true (sym (none_present e (highest p)) ∙ ap is_some (highest_path h)))
    by_last None e false h = first (none_present e) (ap (λ o. unwrap_or o 0 + 1) e)

    pub chosen : IsNumberFor p t (number_for p t)
    chosen = by_last (last_or None (numbers p)) refl (is_highest p t) refl

  -- without a previous one none is below the current
  pub none_below : IsFalse (is_some (previous p)) → (m : ℕ) → IsTrue (has_generation p m) → p.current ≤ m
  none_below h m present = by (nat_lt m p.current) refl
    where
      none_of : (o : Option ℕ) → is_some o ≡ false → o ≡ None
      none_of None e = refl
      none_of (Some n) e = absurd (false≢true (sym e))

      by : (b : Bool) → nat_lt m p.current ≡ b → p.current ≤ m
      by true e = absurd (last_none (filter (λ k. nat_lt k p.current) (numbers p)) (none_of (previous p) h) m
          (in_filtered (λ k. nat_lt k p.current) (numbers p) m (key_listed nat_antisymmetric p.generations m present)
          e))
      by false e = ltb-false m p.current e

  pub before : (n : ℕ) → previous p ≡ Some n → IsPrevious p n
  before n e =
      let in_both =
      from_filtered (λ m. nat_lt m p.current) (numbers p) n
      (last_in (filter (λ m. nat_lt m p.current) (numbers p)) n e) in record {
        present = listed_key nat_cmp_total p.generations n in_both.0;
        lower = ltb-true n p.current in_both.1;
        none_between =
            λ m h above below. contradiction above
            (last_greatest (filter (λ k. nat_lt k p.current) (numbers p)) n
            (IsStrictlySortedBy-filter nat_cmp (λ k. nat_lt k p.current) (numbers p)
            (keys_rise nat_cmp p.generations)) e m
            (in_filtered (λ k. nat_lt k p.current) (numbers p) m (key_listed nat_antisymmetric p.generations m h)
            (lt-ltb m p.current below)));
      }
    where
      contradiction : {a b : ℕ} → a < b → b ≤ a → ⊥
      contradiction h k = omega (arith, h, k)

  -- a previous one is below the current
  pub some_below : IsTrue (is_some (previous p)) → (m : ℕ) × IsTrue (has_generation p m) × (m < p.current)
  some_below h = by (previous p) refl h
    where
      by : (o : Option ℕ) → previous p ≡ o → IsTrue (is_some o)
          → (m : ℕ) × IsTrue (has_generation p m) × (m < p.current)
      by None e t = absurd (false≢true t)
      by (Some m) e t =
          let inside =
          from_filtered (λ k. nat_lt k p.current) (numbers p) m
          (last_in (filter (λ k. nat_lt k p.current) (numbers p)) m e) in
          (m, listed_key nat_cmp_total p.generations m inside.0, ltb-true m p.current inside.1)

  -- there is one highest
  one_highest : (n m : ℕ) → IsHighest p n → IsHighest p m → n ≡ m
  one_highest n m h k = let less = k.greatest n h.present in let more =
      h.greatest m k.present in omega (arith, less, more)

  -- a path gets one number
  pub one_number : (t : Path) (n m : ℕ) → IsNumberFor p t n → IsNumberFor p t m → n ≡ m
  one_number t n m (again h at) (again k on) = one_highest n m h k
  one_number t n m (again h at) (next j k off is) =
      absurd (off (subst (λ (x : ℕ). finite.get p.generations x ≡ Some t) (one_highest n j h k) at))
  one_number t n m (again h at) (first none is) = absurd (false≢true (sym (none n) ∙ h.present))
  one_number t n m (next i h off is) (again k at) =
      absurd (off (subst (λ (x : ℕ). finite.get p.generations x ≡ Some t) (one_highest m i k h) at))
  one_number t n m (next i h off is) (next j k out it) = let same = one_highest i j h k in omega (arith, same, is, it)
  one_number t n m (next i h off is) (first none it) = absurd (false≢true (sym (none i) ∙ h.present))
  one_number t n m (first none is) (again k at) = absurd (false≢true (sym (none m) ∙ k.present))
  one_number t n m (first none is) (next j k out it) = absurd (false≢true (sym (none j) ∙ k.present))
  one_number t n m (first none is) (first nor it) = is ∙ sym it
