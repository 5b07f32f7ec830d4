-- Changes that leave a sound world sound, for callers of the tables.
use Rattle.std.proofs.Common.{◌≡◌, ℕ, ◌≤◌, List, Bool, Some, None, Option, refl, sym, ap, arith, ◌∙◌, IsTrue, false}
use Rattle.std.proofs.Common.{subst, inl, inr, ◌⊎◌}
use Rattle.std.specs.Prelude.{is_some, if◌then◌else◌}
use Rattle.std.specs.Ordering.{nat_cmp}
use Rattle.std.specs.Cmp.{nat_cmp_total}
use Rattle.std.specs.Cmp.Lexicographic.{nat_list_cmp_total}
use Rattle.std.specs.FinMap as finite
use Rattle.std.proofs.lemmas.Bool.{false≢true}
use Rattle.sqlite_trees.specs.declared.store.Store.{Ghosts}
use Rattle.nar.specs.Tree.{Tree}
use Rattle.nar.specs.Archive.{IsArchive}
use Rattle.nar.specs.Outcome.{outcome_of}
use Rattle.paths.specs.Names.{is_plain_name}
use Rattle.paths.specs.StorePath.{is_base_name, is_derivation}
use Rattle.paths.specs.Root.{bytes_cmp, Set}
use Rattle.model.specs.World.{Path, Pair, Object, Profile, Temporary, World, has}
use Rattle.model.specs.Sound.{IsSoundObject, IsSoundProfile, IsSound}
use Rattle.model.specs.Objects.{tree_outputs}
use Rattle.model.specs.Profiles.{profile_or_new, profile_at, put_at}
use Rattle.model.specs.Effects.{keeping}
use Rattle.model.proofs.Empty.{no_key, no_entry}
use Rattle.model.proofs.MapMembers.{bytes_antisymmetric, nat_antisymmetric, pair_total, pair_antisymmetric}
use Rattle.model.proofs.MapMembers.{inserted_key, inserted_entry, contains_key-inserted, still_contains}
use Rattle.model.proofs.SoundParts.{object_in, profile_in, with_roots}
use Rattle.model.proofs.Worlds.{kept_if, found_in}
use Rattle.tables_outline.specs.Outline.{OutlineValue, Outlined, outlined, with_archive}
use Rattle.tables_outline.proofs.Reported.{has-reported}
use Rattle.tables_writes.specs.Entries.{with_archived, with_numbers}
use Rattle.tables_writes.specs.TablesValue.{TablesValue, HasWorld}

-- a path is valid in each world of the tables if the outline has it, and else in none
pub valid_by_outline : {S : Type 0} (g : Ghosts S) (k : TablesValue S) (w : World) → HasWorld g k w → (p : Path)
    → has w p ≡ finite.contains_key k.outline.objects p
valid_by_outline g k w t p =
    sym (has-reported nat_list_cmp_total bytes_antisymmetric (λ _ x. outlined x) w.objects p)
    ∙ ap (λ (x : OutlineValue). finite.contains_key x.objects p) t.outline

-- what is known of the generations of a profile, whether it is there or not
record IsBounded (w : World) (p : Profile) : Type 0 where
  lowest : (n : ℕ) → IsTrue (finite.contains_key p.generations n) → 1 ≤ n
  highest : (n : ℕ) → IsTrue (finite.contains_key p.generations n) → n ≤ 9999
  targets : (n : ℕ) (t : Path) → finite.get p.generations n ≡ Some t → IsTrue (has w t)

module _ (dir : List ℕ) (w : World) (sound : IsSound dir w) where
  -- ---- a number of a profile

  bounded_at : (owned : Pair) → IsBounded w (profile_at w owned)
  bounded_at owned = by (finite.get w.profiles owned) refl
    where
      by : (o : Option Profile) → finite.get w.profiles owned ≡ o → IsBounded w (profile_or_new o)
      by None e = record {
        lowest = λ n h. absurd (no_key Path nat_cmp n h);
        highest = λ n h. absurd (no_key Path nat_cmp n h);
        targets = λ n t f. absurd (no_entry nat_cmp n t f);
      }
      by (Some p) e = let is =
          sound.profiles owned p e in record { lowest = is.lowest; highest = is.highest; targets = is.targets }

  number_sound : (owned : Pair) (p : Profile) (n : ℕ) (t : Path) → IsBounded w p → IsTrue (is_plain_name owned.0)
      → IsTrue (is_plain_name owned.1) → 1 ≤ n → n ≤ 9999 → IsTrue (has w t)
      → IsSoundProfile w owned (put_at p n t)
  number_sound owned p n t bounds owner name least most valid = record {
    owner = owner;
    name = name;
    current = contains_key-inserted nat_cmp_total nat_antisymmetric p.generations n t;
    lowest = λ m h. low m (inserted_key nat_cmp_total nat_antisymmetric p.generations n t m h);
    highest = λ m h. high m (inserted_key nat_cmp_total nat_antisymmetric p.generations n t m h);
    targets = λ m u f. target m u (inserted_entry nat_cmp_total nat_antisymmetric p.generations n t m u f);
  }
    where
      low : (m : ℕ) → (m ≡ n) ⊎ IsTrue (finite.contains_key p.generations m) → 1 ≤ m
      low m (inl e) = subst (λ (x : ℕ). 1 ≤ x) (sym e) least
      low m (inr old) = bounds.lowest m old

      high : (m : ℕ) → (m ≡ n) ⊎ IsTrue (finite.contains_key p.generations m) → m ≤ 9999
      high m (inl e) = subst (λ (x : ℕ). x ≤ 9999) (sym e) most
      high m (inr old) = bounds.highest m old

      target : (m : ℕ) (u : Path) → ((m ≡ n) × (t ≡ u)) ⊎ (finite.get p.generations m ≡ Some u) → IsTrue (has w u)
      target m u (inl e) = subst (λ (x : Path). IsTrue (has w x)) e.1 valid
      target m u (inr old) = bounds.targets m u old

  -- a profile gets an object's path at a number, which becomes current
  pub number_put : (owner name : List ℕ) (n : ℕ) (t : Path) → IsTrue (is_plain_name owner) → IsTrue (is_plain_name name)
      → 1 ≤ n → n ≤ 9999 → IsTrue (has w t)
      → IsSound dir (with_numbers (owner, name) (Some (n, t)) n w)
  number_put owner name n t plain_owner plain_name least most valid =
      with_roots dir w sound w.permanent w.user_roots
      (finite.insert w.profiles (owner, name) (put_at (profile_at w (owner, name)) n t)) w.runtime w.temporary
      sound.permanent_name sound.permanent_target
      (λ o h. (sound.user_root_owner o h, sound.user_root_name o h)) sound.user_root_target
      (λ o q e. by o q (inserted_entry pair_total pair_antisymmetric w.profiles (owner, name)
      (put_at (profile_at w (owner, name)) n t) o q e))
      (λ x h. (sound.runtime_label x h, sound.runtime_target x h))
      (λ u h. (sound.temporary_owner u h, sound.temporary_session u h, sound.temporary_target u h))
    where
      by : (o : Pair) (q : Profile)
          → ((o ≡ (owner, name)) × (put_at (profile_at w (owner, name)) n t ≡ q)) ⊎ (finite.get w.profiles o ≡ Some q)
          → IsSoundProfile w o q
      by o q (inl e) =
          subst (λ (x : Pair). IsSoundProfile w x q) (sym e.0)
          (subst (λ (y : Profile). IsSoundProfile w (owner, name) y) e.1
          (number_sound (owner, name) (profile_at w (owner, name)) n t (bounded_at (owner, name)) plain_owner
          plain_name least most valid))
      by o q (inr old) = sound.profiles o q old

  -- ---- an object more

  -- an object is put at a path, where it is sound
  pub object_put : (at : Path) (it : Object)
      → IsSoundObject dir (record w { objects = finite.insert w.objects at it }) at it
      → IsSound dir (record w { objects = finite.insert w.objects at it })
  object_put at it fresh =
      let new : World = record w { objects = finite.insert w.objects at it } in
      record {
        objects = λ p o e. by p o (inserted_entry nat_list_cmp_total bytes_antisymmetric w.objects at it p o e);
        permanent_name = sound.permanent_name;
        permanent_target = λ name t e. still t (sound.permanent_target name t e);
        user_root_owner = sound.user_root_owner;
        user_root_name = sound.user_root_name;
        user_root_target = λ owned t e. still t (sound.user_root_target owned t e);
        profiles =
            λ owned p e. profile_in w new owned p (sound.profiles owned p e)
            (λ n t f. still t ((sound.profiles owned p e).targets n t f));
        runtime_label = sound.runtime_label;
        runtime_target = λ x h. still x.1 (sound.runtime_target x h);
        temporary_owner = sound.temporary_owner;
        temporary_session = sound.temporary_session;
        temporary_target = λ t h. still t.path (sound.temporary_target t h);
      }
    where
      still : (p : Path) → IsTrue (has w p) → IsTrue (finite.contains_key (finite.insert w.objects at it) p)
      still p h = still_contains nat_list_cmp_total bytes_antisymmetric w.objects at it p h

      by : (p : Path) (o : Object) → ((p ≡ at) × (it ≡ o)) ⊎ (finite.get w.objects p ≡ Some o)
          → IsSoundObject dir (record w { objects = finite.insert w.objects at it }) p o
      by p o (inl is) =
          subst (λ (x : Path). IsSoundObject dir (record w { objects = finite.insert w.objects at it }) x o) (sym is.0)
          (subst (λ (y : Object). IsSoundObject dir (record w { objects = finite.insert w.objects at it }) at y) is.1
          fresh)
      by p o (inr old) =
          object_in dir w (record w { objects = finite.insert w.objects at it }) p o (sound.objects p o old)
          (λ r c. still r ((sound.objects p o old).references r c))

  -- an archive is put at a path that isn't a derivation's, without references, deriver, address and outputs
  pub archive_put : (at : Path) (t : Tree) (nar : List ℕ) (o : Outlined) → IsTrue (is_base_name at)
      → is_derivation at ≡ false → IsArchive t nar
      → o.references ≡ finite.empty → o.deriver ≡ None → o.ca ≡ None → o.outputs ≡ finite.empty
      → IsSound dir (with_archived at nar o w)
  archive_put at t nar o base plain archive references deriver ca outputs =
      object_put at (with_archive nar o) (record {
        path = base;
        tree = t;
        archive = archive;
        deriver = λ d e. absurd (false≢true (ap is_some (sym deriver ∙ e)));
        references =
            λ r h. absurd (no_key (Unit {0}) bytes_cmp r
            (sym (ap (λ (m : Set bytes_cmp). finite.contains_key m r) references) ∙ h));
        reference_count =
            subst (λ (m : Set bytes_cmp). finite.len m ≤ 4096) (sym references)
            (subst (λ (n : ℕ). n ≤ 4096) (sym (finite.len-empty bytes_cmp (Unit {0}))) (omega arith));
        no_self_reference = λ a e. absurd (false≢true (ap is_some (sym ca ∙ e)));
        address = λ a e. absurd (false≢true (ap is_some (sym ca ∙ e)));
        derivation = λ d. absurd (false≢true (sym plain ∙ d));
        outputs =
            outputs ∙ sym (ap (λ (b : Bool). if b then tree_outputs dir (outcome_of nar) else finite.empty) plain);
      })

  -- ---- fewer objects

  -- objects are kept, and with them what they refer to and what a root is on
  pub objects_kept : (test : Path → Bool)
      → ((p : Path) (o : Object) → finite.get w.objects p ≡ Some o → IsTrue (test p) → (r : Path)
      → IsTrue (finite.contains_key o.references r) → IsTrue (test r))
      → ((name : List ℕ) (t : Path) → finite.get w.permanent name ≡ Some t → IsTrue (test t))
      → ((owned : Pair) (t : Path) → finite.get w.user_roots owned ≡ Some t → IsTrue (test t))
      → ((owned : Pair) (p : Profile) → finite.get w.profiles owned ≡ Some p → (n : ℕ) (t : Path)
      → finite.get p.generations n ≡ Some t → IsTrue (test t))
      → ((x : Pair) → IsTrue (finite.contains_key w.runtime x) → IsTrue (test x.1))
      → ((t : Temporary) → IsTrue (finite.contains_key w.temporary t) → IsTrue (test t.path))
      → IsSound dir (keeping w test)
  objects_kept test references permanent users profiles runtime temporary =
      record {
        objects = λ p o e.
            let was = found_in w.objects test p o e in
            object_in dir w (keeping w test) p o (sound.objects p o was.1)
            (λ r c. left r (references p o was.1 was.0 r c) ((sound.objects p o was.1).references r c));
        permanent_name = sound.permanent_name;
        permanent_target = λ name t e. left t (permanent name t e) (sound.permanent_target name t e);
        user_root_owner = sound.user_root_owner;
        user_root_name = sound.user_root_name;
        user_root_target = λ owned t e. left t (users owned t e) (sound.user_root_target owned t e);
        profiles =
            λ owned p e. profile_in w (keeping w test) owned p (sound.profiles owned p e)
            (λ n t f. left t (profiles owned p e n t f) ((sound.profiles owned p e).targets n t f));
        runtime_label = sound.runtime_label;
        runtime_target = λ x h. left x.1 (runtime x h) (sound.runtime_target x h);
        temporary_owner = sound.temporary_owner;
        temporary_session = sound.temporary_session;
        temporary_target = λ t h. left t.path (temporary t h) (sound.temporary_target t h);
      }
    where
      left : (p : Path) → IsTrue (test p) → IsTrue (has w p) → IsTrue (has (keeping w test) p)
      left p h valid = ap is_some (kept_if w.objects test p h) ∙ valid
