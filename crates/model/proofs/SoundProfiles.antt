-- A sound world whose profiles change.
use Rattle.std.proofs.Common.{◌≡◌, ℕ, ◌+◌, ◌≤◌, List, [], ◌∷◌, Bool, true, false, not, ◌&&◌, Some, None, Option, refl}
use Rattle.std.proofs.Common.{sym, ap, arith, ◌∙◌, IsTrue, subst, inl, inr, ◌⊎◌}
use Rattle.std.specs.Prelude.{Contains, ◌==◌, is_some, nat_le, nat_lt, if◌then◌else◌, unwrap_or}
use Rattle.std.specs.List.{filter, last_or}
use Rattle.std.specs.Ordering.{eq_by_cmp, nat_cmp}
use Rattle.std.specs.Cmp.{nat_cmp_total}
use Rattle.std.specs.FinMap as finite
use Rattle.std.proofs.lemmas.Bool.{and_parts, false≢true, not-true, false_from_ne_true, leb-true}
use Rattle.std.proofs.lemmas.Option.{same_Some}
use Rattle.std.proofs.Math.Dec.{eqb_refl}
use Rattle.paths.specs.Names.{is_plain_name}
use Rattle.live.proofs.Members.{at_head, behind}
use Rattle.model.specs.World.{Path, Pair, Profile, World, has}
use Rattle.model.specs.Sound.{IsSoundProfile, IsSound}
use Rattle.model.proofs.Empty.{no_key, no_entry}
use Rattle.model.specs.Profiles.{profile_or_new, profile_at, has_profile, has_generation, numbers, highest, is_path}
use Rattle.model.specs.Profiles.{is_highest, number_for, previous, switched, set_to, rolled_back, without_generation}
use Rattle.paths.specs.Decimal.{max_generation}
use Rattle.model.specs.Effects.{with_profile}
use Rattle.model.proofs.MapMembers.{nat_antisymmetric, pair_total, pair_antisymmetric, tied_is, listed_key}
use Rattle.model.proofs.MapMembers.{inserted_key, inserted_entry, contains_key-inserted, removed_key, removed_entry}
use Rattle.model.proofs.MapMembers.{other_key}
use Rattle.model.proofs.Filtered.{from_filtered}
use Rattle.model.proofs.SoundParts.{with_roots}
use lib.Dec.{T}

-- ---- the last of a list

last_is : {X : Type 0} (o : Option X) (xs : List X) (x : X) → last_or o xs ≡ Some x → (o ≡ Some x) ⊎ Contains xs x
last_is {X} o [] x e = inl e
last_is {X} o (y ∷ ys) x e = elim (last_is (Some y) ys x e) as (λ _. (o ≡ Some x) ⊎ Contains (y ∷ ys) x) [
  | inl is ↦ inr (subst (λ u. Contains (y ∷ ys) u) (same_Some y x is) (at_head y ys))
  | inr later ↦ inr (behind y x ys later)
]

last_member : {X : Type 0} (xs : List X) (x : X) → last_or None xs ≡ Some x → Contains xs x
last_member xs x e = elim (last_is None xs x e) as (λ _. Contains xs x) [
  | inl none ↦ absurd (false≢true (ap is_some none))
  | inr present ↦ present
]

-- ---- generations in their bounds, with valid targets

record IsBounded (w : World) (p : Profile) : Type 0 where
  lowest : (n : ℕ) → IsTrue (finite.contains_key p.generations n) → 1 ≤ n
  highest : (n : ℕ) → IsTrue (finite.contains_key p.generations n) → n ≤ 9999
  targets : (n : ℕ) (t : Path) → finite.get p.generations n ≡ Some t → IsTrue (has w t)

module _ (dir : List ℕ) (w : World) (sound : IsSound dir w) where
  bounded_at : (owned : Pair) → IsBounded w (profile_at w owned)
  bounded_at owned = by (finite.get w.profiles owned) refl
    where
      by : (o : Option Profile) → finite.get w.profiles owned ≡ o → IsBounded w (profile_or_new o)
      by None e = record {
        lowest = λ n h. absurd (no_key Path nat_cmp n h);
        highest = λ n h. absurd (no_key Path nat_cmp n h);
        targets = λ n t f. absurd (no_entry nat_cmp n t f);
      }
      by (Some p) e = let is =
          sound.profiles owned p e in record { lowest = is.lowest; highest = is.highest; targets = is.targets }

  sound_at : (owned : Pair) → IsTrue (has_profile w owned) → IsSoundProfile w owned (profile_at w owned)
  sound_at owned h = by (finite.get w.profiles owned) refl h
    where
      by : (o : Option Profile) → finite.get w.profiles owned ≡ o → is_some o ≡ true
          → IsSoundProfile w owned (profile_or_new o)
      by None e h = absurd (false≢true h)
      by (Some p) e h = sound.profiles owned p e

  -- one profile changed for one that is sound
  changed : (owned : Pair) (p : Profile) → IsSoundProfile w owned p → IsSound dir (with_profile w owned p)
  changed owned p is =
      with_roots dir w sound w.permanent w.user_roots (finite.insert w.profiles owned p) w.runtime w.temporary
      sound.permanent_name sound.permanent_target
      (λ o h. (sound.user_root_owner o h, sound.user_root_name o h)) sound.user_root_target
      (λ o q e. by o q (inserted_entry pair_total pair_antisymmetric w.profiles owned p o q e))
      (λ x h. (sound.runtime_label x h, sound.runtime_target x h))
      (λ t h. (sound.temporary_owner t h, sound.temporary_session t h, sound.temporary_target t h))
    where
      by : (o : Pair) (q : Profile) → ((o ≡ owned) × (p ≡ q)) ⊎ (finite.get w.profiles o ≡ Some q)
          → IsSoundProfile w o q
      by o q (inl e) =
          subst (λ (x : Pair). IsSoundProfile w x q) (sym e.0)
          (subst (λ (y : Profile). IsSoundProfile w owned y) e.1 is)
      by o q (inr old) = sound.profiles o q old

  -- the current number moves to another generation
  moved : (owned : Pair) (p : Profile) (n : ℕ) → IsTrue (is_plain_name owned.0) → IsTrue (is_plain_name owned.1)
      → IsBounded w p → IsTrue (finite.contains_key p.generations n) → IsSoundProfile w owned (switched p n)
  moved owned p n owner name bounds h =
      record {
        owner = owner;
        name = name;
        current = h;
        lowest = bounds.lowest;
        highest = bounds.highest;
        targets = bounds.targets;
      }

  highest_present : (p : Profile) (t : Path) → is_highest p t ≡ true
      → IsTrue (finite.contains_key p.generations (highest p))
  highest_present p t e = by (finite.get p.generations (highest p)) e
    where
      by : (o : Option Path) → is_path o t ≡ true → is_some o ≡ true
      by None h = absurd (false≢true h)
      by (Some q) h = refl

  pub profile_set : (owner name : List ℕ) (t : Path) → IsTrue (is_plain_name owner && is_plain_name name)
      → IsTrue (has w t) → IsTrue (nat_le (number_for (profile_at w (owner, name)) t) max_generation)
      → IsSound dir (with_profile w (owner, name) (set_to (profile_at w (owner, name)) t))
  profile_set owner name t plain valid fits =
      changed (owner, name) (set_to (profile_at w (owner, name)) t)
      (by (is_highest (profile_at w (owner, name)) t) refl)
    where
      p : Profile
      p = profile_at w (owner, name)

      names : IsTrue (is_plain_name owner) × IsTrue (is_plain_name name)
      names = and_parts (is_plain_name owner) (is_plain_name name) plain

      bounds : IsBounded w (profile_at w (owner, name))
      bounds = bounded_at (owner, name)

      next : ℕ
      next = highest (profile_at w (owner, name)) + 1

      low : (n : ℕ) → (n ≡ highest (profile_at w (owner, name)) + 1)
          ⊎ IsTrue (finite.contains_key (profile_at w (owner, name)).generations n) → 1 ≤ n
      low n (inl e) = omega (arith, e)
      low n (inr old) = bounds.lowest n old

      high : highest (profile_at w (owner, name)) + 1 ≤ 9999 → (n : ℕ)
          → (n ≡ highest (profile_at w (owner, name)) + 1)
          ⊎ IsTrue (finite.contains_key (profile_at w (owner, name)).generations n) → n ≤ 9999
      high h n (inl e) = omega (arith, e, h)
      high h n (inr old) = bounds.highest n old

      target : (n : ℕ) (u : Path) → ((n ≡ highest (profile_at w (owner, name)) + 1) × (t ≡ u))
          ⊎ (finite.get (profile_at w (owner, name)).generations n ≡ Some u) → IsTrue (has w u)
      target n u (inl e) = subst (λ (x : Path). IsTrue (has w x)) e.1 valid
      target n u (inr old) = bounds.targets n u old

      by : (b : Bool) → is_highest (profile_at w (owner, name)) t ≡ b → IsSoundProfile w (owner, name) (if b
          then switched (profile_at w (owner, name)) (highest (profile_at w (owner, name)))
          else record {
            generations = finite.insert (profile_at w (owner, name)).generations
                (highest (profile_at w (owner, name)) + 1) t;
            current = highest (profile_at w (owner, name)) + 1;
          })
      by true e =
          moved (owner, name) (profile_at w (owner, name)) (highest (profile_at w (owner, name))) names.0 names.1 bounds
          (highest_present (profile_at w (owner, name)) t e)
      by false e =
          let least : highest (profile_at w (owner, name)) + 1 ≤ 9999 =
          leb-true (highest (profile_at w (owner, name)) + 1) 9999
          (sym (ap (λ b. nat_le (if b then highest (profile_at w (owner, name))
          else highest (profile_at w (owner, name)) + 1) max_generation) e) ∙ fits) in
          record {
            owner = names.0;
            name = names.1;
            current =
                contains_key-inserted nat_cmp_total nat_antisymmetric (profile_at w (owner, name)).generations
                (highest (profile_at w (owner, name)) + 1) t;
            lowest =
                λ n h. low n (inserted_key nat_cmp_total nat_antisymmetric (profile_at w (owner, name)).generations
                (highest (profile_at w (owner, name)) + 1) t n h);
            highest =
                λ n h. high least n (inserted_key nat_cmp_total nat_antisymmetric
                (profile_at w (owner, name)).generations (highest (profile_at w (owner, name)) + 1) t n h);
            targets =
                λ n u f. target n u (inserted_entry nat_cmp_total nat_antisymmetric
                (profile_at w (owner, name)).generations (highest (profile_at w (owner, name)) + 1) t n u f);
          }

  previous_present : (p : Profile) → IsTrue (is_some (previous p))
      → IsTrue (finite.contains_key p.generations (unwrap_or (previous p) p.current))
  previous_present p h = by (previous p) refl h
    where
      by : (o : Option ℕ) → previous p ≡ o → is_some o ≡ true
          → IsTrue (finite.contains_key p.generations (unwrap_or o p.current))
      by None e h = absurd (false≢true h)
      by (Some n) e h =
          listed_key nat_cmp_total p.generations n
          (from_filtered (λ n. nat_lt n p.current) (numbers p) n
          (last_member (filter (λ n. nat_lt n p.current) (numbers p)) n e)).0

  pub profile_rolled_back : (owner name : List ℕ) → IsTrue (has_profile w (owner, name))
      → IsTrue (is_some (previous (profile_at w (owner, name))))
      → IsSound dir (with_profile w (owner, name) (rolled_back (profile_at w (owner, name))))
  profile_rolled_back owner name present older =
      let is = sound_at (owner, name) present in
      changed (owner, name) (rolled_back (profile_at w (owner, name)))
      (moved (owner, name) (profile_at w (owner, name))
      (unwrap_or (previous (profile_at w (owner, name))) (profile_at w (owner, name)).current) is.owner is.name
      (bounded_at (owner, name)) (previous_present (profile_at w (owner, name)) older))

  pub profile_switched : (owner name : List ℕ) (n : ℕ) → IsTrue (has_profile w (owner, name))
      → IsTrue (has_generation (profile_at w (owner, name)) n)
      → IsSound dir (with_profile w (owner, name) (switched (profile_at w (owner, name)) n))
  profile_switched owner name n present generation =
      let is = sound_at (owner, name) present in
      changed (owner, name) (switched (profile_at w (owner, name)) n)
      (moved (owner, name) (profile_at w (owner, name)) n is.owner is.name (bounded_at (owner, name)) generation)

  pub generation_deleted : (owner name : List ℕ) (n : ℕ) → IsTrue (has_profile w (owner, name))
      → IsTrue (not ((profile_at w (owner, name)).current == n))
      → IsSound dir (with_profile w (owner, name) (without_generation (profile_at w (owner, name)) n))
  generation_deleted owner name n present other =
      let is = sound_at (owner, name) present in
      changed (owner, name) (without_generation (profile_at w (owner, name)) n) (record {
        owner = is.owner;
        name = is.name;
        current =
            other_key nat_cmp_total nat_antisymmetric (profile_at w (owner, name)).generations n
            (profile_at w (owner, name)).current (apart (profile_at w (owner, name)).current other) is.current;
        lowest =
            λ k h. is.lowest k (removed_key nat_cmp_total nat_antisymmetric (profile_at w (owner, name)).generations n k
            h);
        highest =
            λ k h. is.highest k (removed_key nat_cmp_total nat_antisymmetric (profile_at w (owner, name)).generations n
            k h);
        targets =
            λ k t e. is.targets k t (removed_entry nat_cmp_total nat_antisymmetric
            (profile_at w (owner, name)).generations n k t e);
      })
    where
      true_of : (b : Bool) → T b → b ≡ true
      true_of true h = refl
      true_of false h = absurd h

      apart : (k : ℕ) → IsTrue (not (k == n)) → eq_by_cmp nat_cmp k n ≡ false
      apart k h = false_from_ne_true (eq_by_cmp nat_cmp k n) (λ tie.
          let one = tied_is nat_antisymmetric k n tie in
          false≢true (sym (not-true (k == n) h) ∙ (ap (λ (x : ℕ). x == n) one ∙ true_of (n == n) (eqb_refl n))))
