-- A world stays sound where no test of a request on roots fails.
use Rattle.std.proofs.Common.{◌≡◌, ℕ, List, not, ◌&&◌, None, arith, refl}
use Rattle.std.specs.Prelude.{[], false, ◌==◌, is_some, nat_le}
use Rattle.std.specs.List.{list_all}
use Rattle.std.specs.FinMap as finite
use Rattle.paths.specs.Names.{is_plain_name}
use Rattle.paths.specs.Root.{is_runtime_label, is_session}
use Rattle.policy.specs.Settings.{Settings}
use Rattle.model.specs.World.{Path, Pair, World, has}
use Rattle.model.specs.Sound.{IsSound}
use Rattle.model.specs.Request.{set_permanent, set_user_root, set_profile, rollback, switch, delete_generation}
use Rattle.model.specs.Request.{replace_runtime, add_temp}
use Rattle.model.specs.Profiles.{profile_at, has_profile, has_generation, number_for, previous, set_to, switched}
use Rattle.model.specs.Profiles.{rolled_back, without_generation}
use Rattle.paths.specs.Decimal.{max_generation}
use Rattle.model.specs.Tests.{tests, refusal}
use Rattle.model.specs.Effects.{with_permanent, with_user_root, with_profile, with_runtime, with_temporary, valid_pairs}
use Rattle.model.proofs.Passed.{met, each_passed}
use Rattle.model.proofs.SoundRoots.{permanent_set, user_root_set, runtime_replaced, temporary_added}
use Rattle.model.proofs.SoundProfiles.{profile_set, profile_rolled_back, profile_switched, generation_deleted}

-- the tests of roots ask nothing of the settings
abbrev pub no_settings : Settings
no_settings =
    record {
      store_dir = [];
      allowed_users = [];
      trusted_users = [];
      keep_outputs = false;
      keep_derivations = false;
      groups = finite.empty;
    }

module _ (dir : List ℕ) (w : World) (sound : IsSound dir w) where
  pub permanent_fits : (name : List ℕ) (p : Path) → refusal no_settings w (set_permanent name p) ≡ None
      → IsSound dir (with_permanent w name p)
  permanent_fits name p e =
      permanent_set dir w sound name p
      (met (is_plain_name name) _ (each_passed (tests no_settings w (set_permanent name p)) e _ (0, omega arith, refl)))
      (met (has w p) _ (each_passed (tests no_settings w (set_permanent name p)) e _ (1, omega arith, refl)))

  pub user_root_fits : (owner name : List ℕ) (p : Path) → refusal no_settings w (set_user_root owner name p) ≡ None
      → IsSound dir (with_user_root w (owner, name) p)
  user_root_fits owner name p e =
      user_root_set dir w sound owner name p
      (met (is_plain_name owner && is_plain_name name) _
      (each_passed (tests no_settings w (set_user_root owner name p)) e _ (0, omega arith, refl)))
      (met (has w p) _ (each_passed (tests no_settings w (set_user_root owner name p)) e _ (1, omega arith, refl)))

  pub profile_fits : (owner name : List ℕ) (p : Path) → refusal no_settings w (set_profile owner name p) ≡ None
      → IsSound dir (with_profile w (owner, name) (set_to (profile_at w (owner, name)) p))
  profile_fits owner name p e =
      profile_set dir w sound owner name p
      (met (is_plain_name owner && is_plain_name name) _
      (each_passed (tests no_settings w (set_profile owner name p)) e _ (0, omega arith, refl)))
      (met (has w p) _ (each_passed (tests no_settings w (set_profile owner name p)) e _ (1, omega arith, refl)))
      (met (nat_le (number_for (profile_at w (owner, name)) p) max_generation) _
      (each_passed (tests no_settings w (set_profile owner name p)) e _ (2, omega arith, refl)))

  pub rollback_fits : (owner name : List ℕ) → refusal no_settings w (rollback owner name) ≡ None
      → IsSound dir (with_profile w (owner, name) (rolled_back (profile_at w (owner, name))))
  rollback_fits owner name e =
      profile_rolled_back dir w sound owner name
      (met (has_profile w (owner, name)) _
      (each_passed (tests no_settings w (rollback owner name)) e _ (1, omega arith, refl)))
      (met (is_some (previous (profile_at w (owner, name)))) _
      (each_passed (tests no_settings w (rollback owner name)) e _ (2, omega arith, refl)))

  pub switch_fits : (owner name : List ℕ) (n : ℕ) → refusal no_settings w (switch owner name n) ≡ None
      → IsSound dir (with_profile w (owner, name) (switched (profile_at w (owner, name)) n))
  switch_fits owner name n e =
      profile_switched dir w sound owner name n
      (met (has_profile w (owner, name)) _
      (each_passed (tests no_settings w (switch owner name n)) e _ (1, omega arith, refl)))
      (met (has_generation (profile_at w (owner, name)) n) _
      (each_passed (tests no_settings w (switch owner name n)) e _ (2, omega arith, refl)))

  pub deletion_fits : (owner name : List ℕ) (n : ℕ) → refusal no_settings w (delete_generation owner name n) ≡ None
      → IsSound dir (with_profile w (owner, name) (without_generation (profile_at w (owner, name)) n))
  deletion_fits owner name n e =
      generation_deleted dir w sound owner name n
      (met (has_profile w (owner, name)) _
      (each_passed (tests no_settings w (delete_generation owner name n)) e _ (1, omega arith, refl)))
      (met (not ((profile_at w (owner, name)).current == n)) _
      (each_passed (tests no_settings w (delete_generation owner name n)) e _ (3, omega arith, refl)))

  pub runtime_fits : (pairs : List Pair) → refusal no_settings w (replace_runtime pairs) ≡ None
      → IsSound dir (with_runtime w (valid_pairs w pairs))
  runtime_fits pairs e =
      runtime_replaced dir w sound pairs
      (met (list_all (λ p. is_runtime_label p.0) pairs) _
      (each_passed (tests no_settings w (replace_runtime pairs)) e _ (0, omega arith, refl)))

  pub temporary_fits : (owner : List ℕ) (session : ℕ) (p : Path)
      → refusal no_settings w (add_temp owner session p) ≡ None
      → IsSound dir (with_temporary w (record { owner = owner; session = session; path = p }))
  temporary_fits owner session p e =
      temporary_added dir w sound (record { owner = owner; session = session; path = p })
      (met (is_plain_name owner) _ (each_passed (tests no_settings w (add_temp owner session p)) e _
      (0, omega arith, refl)))
      (met (is_session session) _ (each_passed (tests no_settings w (add_temp owner session p)) e _
      (1, omega arith, refl)))
      (met (has w p) _ (each_passed (tests no_settings w (add_temp owner session p)) e _ (2, omega arith, refl)))
