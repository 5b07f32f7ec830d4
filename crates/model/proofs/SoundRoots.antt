-- A sound world whose permanent, user, runtime or temporary roots change.
use Rattle.std.proofs.Common.{◌≡◌, ℕ, List, ◌&&◌, not, Some, sym, IsTrue, subst, inl, inr, ◌⊎◌}
use Rattle.std.specs.List.{list_all, filter}
use Rattle.std.specs.Cmp.Lexicographic.{nat_list_cmp_total}
use Rattle.std.specs.FinMap as finite
use Rattle.std.proofs.lemmas.Bool.{and_parts}
use Rattle.paths.specs.Names.{is_plain_name}
use Rattle.paths.specs.Root.{is_runtime_label, is_session}
use Rattle.model.specs.World.{Path, Pair, Temporary, World, has}
use Rattle.model.specs.Sound.{IsSound}
use Rattle.model.specs.Effects.{with_permanent, without_permanent, with_user_root, without_user_root, valid_pairs}
use Rattle.model.specs.Effects.{with_runtime, is_of_session, with_temporary, without_session}
use Rattle.model.proofs.MapMembers.{bytes_antisymmetric, pair_total, pair_antisymmetric, temporary_total}
use Rattle.model.proofs.MapMembers.{temporary_antisymmetric, retained_key, inserted_key, inserted_entry, removed_key}
use Rattle.model.proofs.MapMembers.{removed_entry, set_member}
use Rattle.model.proofs.Filtered.{from_filtered}
use Rattle.model.proofs.Passed.{all_member}
use Rattle.model.proofs.SoundParts.{with_roots}

module _ (dir : List ℕ) (w : World) (sound : IsSound dir w) where
  owners : (owned : Pair) → IsTrue (finite.contains_key w.user_roots owned)
      → IsTrue (is_plain_name owned.0) × IsTrue (is_plain_name owned.1)
  owners owned h = (sound.user_root_owner owned h, sound.user_root_name owned h)

  pairs : (x : Pair) → IsTrue (finite.contains_key w.runtime x) → IsTrue (is_runtime_label x.0) × IsTrue (has w x.1)
  pairs x h = (sound.runtime_label x h, sound.runtime_target x h)

  kept : (t : Temporary) → IsTrue (finite.contains_key w.temporary t)
      → IsTrue (is_plain_name t.owner) × IsTrue (is_session t.session) × IsTrue (has w t.path)
  kept t h = (sound.temporary_owner t h, sound.temporary_session t h, sound.temporary_target t h)

  pub permanent_set : (name : List ℕ) (p : Path) → IsTrue (is_plain_name name) → IsTrue (has w p)
      → IsSound dir (with_permanent w name p)
  permanent_set name p plain valid =
      with_roots dir w sound (finite.insert w.permanent name p) w.user_roots w.profiles w.runtime w.temporary
      (λ n h. name_of n (inserted_key nat_list_cmp_total bytes_antisymmetric w.permanent name p n h))
      (λ n t e. target_of n t (inserted_entry nat_list_cmp_total bytes_antisymmetric w.permanent name p n t e))
      owners sound.user_root_target sound.profiles pairs kept
    where
      name_of : (n : List ℕ) → (n ≡ name) ⊎ IsTrue (finite.contains_key w.permanent n) → IsTrue (is_plain_name n)
      name_of n (inl is) = subst (λ (x : List ℕ). IsTrue (is_plain_name x)) (sym is) plain
      name_of n (inr old) = sound.permanent_name n old

      target_of : (n : List ℕ) (t : Path) → ((n ≡ name) × (p ≡ t)) ⊎ (finite.get w.permanent n ≡ Some t)
          → IsTrue (has w t)
      target_of n t (inl is) = subst (λ (x : Path). IsTrue (has w x)) is.1 valid
      target_of n t (inr old) = sound.permanent_target n t old

  pub permanent_dropped : (name : List ℕ) → IsSound dir (without_permanent w name)
  permanent_dropped name =
      with_roots dir w sound (finite.remove w.permanent name) w.user_roots w.profiles w.runtime w.temporary
      (λ n h. sound.permanent_name n (removed_key nat_list_cmp_total bytes_antisymmetric w.permanent name n h))
      (λ n t e. sound.permanent_target n t
      (removed_entry nat_list_cmp_total bytes_antisymmetric w.permanent name n t e))
      owners sound.user_root_target sound.profiles pairs kept

  pub user_root_set : (owner name : List ℕ) (p : Path) → IsTrue (is_plain_name owner && is_plain_name name)
      → IsTrue (has w p) → IsSound dir (with_user_root w (owner, name) p)
  user_root_set owner name p plain valid =
      with_roots dir w sound w.permanent (finite.insert w.user_roots (owner, name) p) w.profiles w.runtime w.temporary
      sound.permanent_name sound.permanent_target
      (λ o h. owner_of o (inserted_key pair_total pair_antisymmetric w.user_roots (owner, name) p o h))
      (λ o t e. target_of o t (inserted_entry pair_total pair_antisymmetric w.user_roots (owner, name) p o t e))
      sound.profiles pairs kept
    where
      owner_of : (o : Pair) → (o ≡ (owner, name)) ⊎ IsTrue (finite.contains_key w.user_roots o)
          → IsTrue (is_plain_name o.0) × IsTrue (is_plain_name o.1)
      owner_of o (inl is) =
          let both = and_parts (is_plain_name owner) (is_plain_name name) plain in
          subst (λ (x : Pair). IsTrue (is_plain_name x.0) × IsTrue (is_plain_name x.1)) (sym is) both
      owner_of o (inr old) = owners o old

      target_of : (o : Pair) (t : Path) → ((o ≡ (owner, name)) × (p ≡ t)) ⊎ (finite.get w.user_roots o ≡ Some t)
          → IsTrue (has w t)
      target_of o t (inl is) = subst (λ (x : Path). IsTrue (has w x)) is.1 valid
      target_of o t (inr old) = sound.user_root_target o t old

  pub user_root_dropped : (owner name : List ℕ) → IsSound dir (without_user_root w (owner, name))
  user_root_dropped owner name =
      with_roots dir w sound w.permanent (finite.remove w.user_roots (owner, name)) w.profiles w.runtime w.temporary
      sound.permanent_name sound.permanent_target
      (λ o h. owners o (removed_key pair_total pair_antisymmetric w.user_roots (owner, name) o h))
      (λ o t e. sound.user_root_target o t
      (removed_entry pair_total pair_antisymmetric w.user_roots (owner, name) o t e))
      sound.profiles pairs kept

  pub runtime_replaced : (given : List Pair) → IsTrue (list_all (λ p. is_runtime_label p.0) given)
      → IsSound dir (with_runtime w (valid_pairs w given))
  runtime_replaced given labelled =
      with_roots dir w sound w.permanent w.user_roots w.profiles (valid_pairs w given) w.temporary
      sound.permanent_name sound.permanent_target owners sound.user_root_target sound.profiles
      (λ x h.
      let valid =
      from_filtered (λ (p : Pair). has w p.1) given x
      (set_member pair_total pair_antisymmetric (filter (λ (p : Pair). has w p.1) given) x h) in
      (all_member (λ (p : Pair). is_runtime_label p.0) given x labelled valid.0, valid.1))
      kept

  pub temporary_added : (t : Temporary) → IsTrue (is_plain_name t.owner) → IsTrue (is_session t.session)
      → IsTrue (has w t.path) → IsSound dir (with_temporary w t)
  temporary_added t plain numbered valid =
      with_roots dir w sound w.permanent w.user_roots w.profiles w.runtime (finite.insert w.temporary t tt)
      sound.permanent_name sound.permanent_target owners sound.user_root_target sound.profiles pairs
      (λ u h. by u (inserted_key temporary_total temporary_antisymmetric w.temporary t tt u h))
    where
      by : (u : Temporary) → (u ≡ t) ⊎ IsTrue (finite.contains_key w.temporary u)
          → IsTrue (is_plain_name u.owner) × IsTrue (is_session u.session) × IsTrue (has w u.path)
      by u (inl is) =
          subst (λ (x : Temporary). IsTrue (is_plain_name x.owner) × IsTrue (is_session x.session)
          × IsTrue (has w x.path)) (sym is) (plain, numbered, valid)
      by u (inr old) = kept u old

  pub session_ended : (owner : List ℕ) (session : ℕ) → IsSound dir (without_session w owner session)
  session_ended owner session =
      with_roots dir w sound w.permanent w.user_roots w.profiles w.runtime
      (finite.retain_keys w.temporary (λ t. not (is_of_session owner session t)))
      sound.permanent_name sound.permanent_target owners sound.user_root_target sound.profiles pairs
      (λ t h. kept t (retained_key temporary_antisymmetric w.temporary (λ u. not (is_of_session owner session u)) t
      h).1)
