-- The roots of the rows are sound if and only if the tests of them say so.
use Rattle.std.proofs.Common.{◌≡◌, ℕ, ℤ, pos, ◌≤◌, List, Bool, true, false, ◌&&◌, Some, None, Option, option_map}
use Rattle.std.proofs.Common.{is_some, refl, sym, ap, subst, ◌∙◌, IsTrue, arith}
use Rattle.std.specs.Prelude.{◌↔◌, nat_le}
use Rattle.std.specs.List.{list_all}
use Rattle.std.specs.FinMap as finite
use Rattle.std.proofs.lemmas.Bool.{false≢true}
use Rattle.std.proofs.lemmas.Option.{same_Some}
use Rattle.tables_sql.specs.Contents.{Contents}
use Rattle.tables_sql.proofs.Orders.{triple_total, triple_antisymmetric}
use Rattle.paths.specs.Names.{is_plain_name}
use Rattle.paths.specs.Root.{is_runtime_label}
use Rattle.paths.specs.StorePath.{is_base_name}
use Rattle.model.specs.World.{Path, Pair, Profile}
use Rattle.tables_world.specs.Rows.{number_in, generations_in, profile_in}
use Rattle.tables_world.specs.Worlds.{rows_of, world_in}
use Rattle.tables_world.specs.Parts.{AreSoundRoots, IsSoundGeneration}
use Rattle.tables_world.proofs.Columns.{generation_at, profile_at}
use Rattle.tables_outline.proofs.Orders.{bytes_total, bytes_antisymmetric, pair_total, pair_antisymmetric}
use Rattle.tables_load_roots.specs.Loaded.{Objects, is_target, is_permanent_root, is_user_root, is_runtime_root}
use Rattle.tables_load_roots.specs.Loaded.{is_number, is_profile, is_generation, are_profiles, are_fixed, are_moving}
use Rattle.tables_load_roots.specs.Loaded.{are_roots, AreObjects}
use Rattle.tables_load_roots.proofs.EachEntry.{tested_entries}
use Rattle.tables_load_roots.proofs.Filled.{is_positive, no_negative}

pub first_true : (a b : Bool) → (a && b) ≡ true → a ≡ true
first_true true b h = refl
first_true false b h = h

pub second_true : (a b : Bool) → (a && b) ≡ true → b ≡ true
second_true true b h = h
second_true false b h = absurd (false≢true h)

pub both_true : (a b : Bool) → a ≡ true → b ≡ true → (a && b) ≡ true
both_true true b h k = k
both_true false b h k = h

pub some_key : {X : Type 0} (g : Option X) → IsTrue (is_some g) → (x : X) × (g ≡ Some x)
some_key None h = absurd (false≢true h)
some_key (Some x) h = (x, refl)

some_mapped : {X Y : Type 0} (f : X → Y) (g : Option X) (y : Y) → option_map f g ≡ Some y
    → (x : X) × (g ≡ Some x) × (f x ≡ y)
some_mapped f None y h = absurd (false≢true (ap is_some h))
some_mapped f (Some x) y h = (x, refl, same_Some (f x) y h)

number_lowest : (n : ℕ) → is_number (pos n) ≡ true → 1 ≤ n
number_lowest n h = let k : nat_le 1 n ≡ true = first_true (nat_le 1 n) (nat_le n 9999) h in grind (arith, k)

number_highest : (n : ℕ) → is_number (pos n) ≡ true → n ≤ 9999
number_highest n h = let k : nat_le n 9999 ≡ true = second_true (nat_le 1 n) (nat_le n 9999) h in grind (arith, k)

number_true : (n : ℕ) → 1 ≤ n → n ≤ 9999 → is_number (pos n) ≡ true
number_true n low high = let a : nat_le 1 n ≡ true = grind arith in let b : nat_le n 9999 ≡ true =
    grind arith in both_true (nat_le 1 n) (nat_le n 9999) a b

module _ (objects : Objects) (c : Contents) (are : AreObjects objects c) where
  pub from_target : (t : Path) → is_target objects t ≡ true → IsTrue (finite.contains_key c.objects t)
  from_target t h = sym (are.same t) ∙ second_true (is_base_name t) (finite.contains_key objects t) h

  pub to_target : (t : Path) → IsTrue (finite.contains_key c.objects t) → is_target objects t ≡ true
  to_target t h = let present =
      are.same t ∙ h in both_true (is_base_name t) (finite.contains_key objects t) (are.named t present) present

  -- a current number is that of a row, where no number is negative
  current_at : ((owner name : List ℕ) (n : ℤ) → IsTrue (finite.contains_key c.generations (owner, name, n))
      → (k : ℕ) × (n ≡ pos k))
      → (owned : Pair) (n : ℤ) (k : ℕ) → n ≡ pos k
      → finite.contains_key (generations_in (rows_of c) owned) (number_in n)
      ≡ finite.contains_key c.generations (owned.0, owned.1, n)
  current_at numbers owned n k is =
      ap is_some (generation_at (rows_of c) numbers owned.0 owned.1 (number_in n)
      ∙ ap (λ (z : ℤ). finite.get c.generations (owned.0, owned.1, z))
      (ap (λ (z : ℤ). pos (number_in z)) is ∙ sym is))

  -- ---- from the tests

  module _ (h : are_roots objects c ≡ true) where
    fixed_true : are_fixed objects c ≡ true
    fixed_true = first_true (are_fixed objects c) (are_moving objects c) h

    moving_true : are_moving objects c ≡ true
    moving_true = second_true (are_fixed objects c) (are_moving objects c) h

    profiles_true : are_profiles objects c ≡ true
    profiles_true = first_true (are_profiles objects c) _ moving_true

    runtime_true : list_all (is_runtime_root objects) (finite.entries c.runtime) ≡ true
    runtime_true = second_true (are_profiles objects c) _ moving_true

    generations_true : list_all (is_generation objects c.profiles) (finite.entries c.generations) ≡ true
    generations_true =
        first_true (list_all (is_generation objects c.profiles) (finite.entries c.generations)) _
        (second_true (list_all is_profile (finite.entries c.profiles)) _ profiles_true)

    generation_from : (owner name : List ℕ) (n : ℤ) (t : Path) → finite.get c.generations (owner, name, n) ≡ Some t
        → IsSoundGeneration (rows_of c) owner name n t
    generation_from owner name n t e =
        let it =
        (tested_entries triple_total triple_antisymmetric c.generations (is_generation objects c.profiles)).0
        generations_true (owner, name, n) t e in
        let number = first_true (is_number n) _ it in
        let rest = second_true (is_number n) _ it in
        let k = is_positive n number in
        let reported = sym (ap is_number k.1) ∙ number in
        record {
          number = k.0;
          is_number = k.1;
          lowest = number_lowest k.0 reported;
          highest = number_highest k.0 reported;
          profile = second_true (is_target objects t) _ rest;
          target = from_target t (first_true (is_target objects t) _ rest);
        }

    profile_from : (owned : Pair) (n : ℤ) → finite.get c.profiles owned ≡ Some n
        → IsTrue (is_plain_name owned.0) × IsTrue (is_plain_name owned.1)
        × IsTrue (finite.contains_key c.generations (owned.0, owned.1, n))
    profile_from owned n e =
        let it =
        (tested_entries pair_total pair_antisymmetric c.profiles is_profile).0
        (first_true (list_all is_profile (finite.entries c.profiles)) _ profiles_true) owned n e in
        let rest = second_true (is_plain_name owned.0) _ it in
        let k = is_positive n (second_true (is_plain_name owned.1) _ rest) in
        let currents =
        second_true (list_all (is_generation objects c.profiles) (finite.entries c.generations)) _
        (second_true (list_all is_profile (finite.entries c.profiles)) _ profiles_true) in
        let current =
        (tested_entries pair_total pair_antisymmetric (world_in c).profiles
        (λ (d : Pair × Profile). finite.contains_key d.1.generations d.1.current)).0 currents owned
        (profile_in (rows_of c) owned n)
        (profile_at (rows_of c) owned ∙ ap (option_map (profile_in (rows_of c) owned)) e) in (
          first_true (is_plain_name owned.0) _ it,
          first_true (is_plain_name owned.1) _ rest,
          sym (current_at (no_negative objects c generations_true) owned n k.0 k.1) ∙ current,
        )

    roots_from : AreSoundRoots (rows_of c)
    roots_from = record {
      permanent = λ name t e.
          let it =
          (tested_entries bytes_total bytes_antisymmetric c.permanent (is_permanent_root objects)).0
          (first_true (list_all (is_permanent_root objects) (finite.entries c.permanent)) _ fixed_true) name t e in
          (first_true (is_plain_name name) _ it, from_target t (second_true (is_plain_name name) _ it));
      user_roots = λ owned t e.
          let it =
          (tested_entries pair_total pair_antisymmetric c.user_roots (is_user_root objects)).0
          (second_true (list_all (is_permanent_root objects) (finite.entries c.permanent)) _ fixed_true) owned t
          e in
          let rest = second_true (is_plain_name owned.0) _ it in (
            first_true (is_plain_name owned.0) _ it,
            first_true (is_plain_name owned.1) _ rest,
            from_target t (second_true (is_plain_name owned.1) _ rest),
          );
      runtime = λ r present.
          let x = some_key (finite.get c.runtime r) present in
          let it =
          (tested_entries pair_total pair_antisymmetric c.runtime (is_runtime_root objects)).0 runtime_true r x.0
          x.1 in
          (first_true (is_runtime_label r.0) _ it, from_target r.1 (second_true (is_runtime_label r.0) _ it));
      profiles = profile_from;
      generations = generation_from;
    }

  -- ---- to the tests

  module _ (h : AreSoundRoots (rows_of c)) where
    numbers : (owner name : List ℕ) (n : ℤ) → IsTrue (finite.contains_key c.generations (owner, name, n))
        → (k : ℕ) × (n ≡ pos k)
    numbers owner name n present =
        let t = some_key (finite.get c.generations (owner, name, n)) present in
        let it = h.generations owner name n t.0 t.1 in
        (it.number, it.is_number)

    number_to : (owner name : List ℕ) (n : ℤ) (t : Path) → finite.get c.generations (owner, name, n) ≡ Some t
        → is_number n ≡ true
    number_to owner name n t e =
        let it = h.generations owner name n t e in
        ap is_number it.is_number ∙ number_true it.number it.lowest it.highest

    profile_to : (owned : Pair) (n : ℤ) → finite.get c.profiles owned ≡ Some n → is_profile (owned, n) ≡ true
    profile_to owned n e =
        let it = h.profiles owned n e in
        let t = some_key (finite.get c.generations (owned.0, owned.1, n)) it.2 in
        both_true (is_plain_name owned.0) _ it.0
        (both_true (is_plain_name owned.1) (is_number n) it.1 (number_to owned.0 owned.1 n t.0 t.1))

    generation_to : (k : List ℕ × List ℕ × ℤ) (t : Path) → finite.get c.generations k ≡ Some t
        → is_generation objects c.profiles (k, t) ≡ true
    generation_to k t e =
        let it = h.generations k.0 k.1 k.2 t e in
        both_true (is_number k.2) _ (number_to k.0 k.1 k.2 t e)
        (both_true (is_target objects t) _ (to_target t it.target) it.profile)

    current_to : (owned : Pair) (p : Profile) → finite.get (world_in c).profiles owned ≡ Some p
        → finite.contains_key p.generations p.current ≡ true
    current_to owned p e =
        let it =
        some_mapped (profile_in (rows_of c) owned) (finite.get c.profiles owned) p
        (sym (profile_at (rows_of c) owned) ∙ e) in
        let present = (h.profiles owned it.0 it.1).2 in
        let k = numbers owned.0 owned.1 it.0 present in
        subst (λ (q : Profile). finite.contains_key q.generations q.current ≡ true) it.2
        (current_at numbers owned it.0 k.0 k.1 ∙ present)

    fixed_to : are_fixed objects c ≡ true
    fixed_to =
        both_true (list_all (is_permanent_root objects) (finite.entries c.permanent))
        (list_all (is_user_root objects) (finite.entries c.user_roots))
        ((tested_entries bytes_total bytes_antisymmetric c.permanent (is_permanent_root objects)).1
        (λ name t e. let it = h.permanent name t e in both_true (is_plain_name name) _ it.0 (to_target t it.1)))
        ((tested_entries pair_total pair_antisymmetric c.user_roots (is_user_root objects)).1
        (λ owned t e. let it = h.user_roots owned t e in
        both_true (is_plain_name owned.0) _ it.0 (both_true (is_plain_name owned.1) _ it.1 (to_target t it.2))))

    profiles_to : are_profiles objects c ≡ true
    profiles_to =
        both_true (list_all is_profile (finite.entries c.profiles)) _
        ((tested_entries pair_total pair_antisymmetric c.profiles is_profile).1 profile_to)
        (both_true (list_all (is_generation objects c.profiles) (finite.entries c.generations)) _
        ((tested_entries triple_total triple_antisymmetric c.generations (is_generation objects c.profiles)).1
        generation_to)
        ((tested_entries pair_total pair_antisymmetric (world_in c).profiles
        (λ (d : Pair × Profile). finite.contains_key d.1.generations d.1.current)).1 current_to))

    runtime_to : list_all (is_runtime_root objects) (finite.entries c.runtime) ≡ true
    runtime_to =
        (tested_entries pair_total pair_antisymmetric c.runtime (is_runtime_root objects)).1
        (λ r x e. let it = h.runtime r (ap is_some e) in both_true (is_runtime_label r.0) _ it.0 (to_target r.1 it.1))

    roots_to : are_roots objects c ≡ true
    roots_to =
        both_true (are_fixed objects c) (are_moving objects c) fixed_to
        (both_true (are_profiles objects c) _ profiles_to runtime_to)

  pub roots_sound : (are_roots objects c ≡ true) ↔ AreSoundRoots (rows_of c)
  roots_sound = (roots_from, roots_to)
