-- A sound world stays sound over a step and over a run.
use Rattle.std.proofs.Common.{◌≡◌, [], ◌∷◌, not, ◌&&◌, Some, None, sym, arith, refl, subst}
use Rattle.std.specs.Prelude.{◌==◌, is_some, nat_le}
use Rattle.std.specs.List.{list_all}
use Rattle.paths.specs.Names.{is_plain_name}
use Rattle.paths.specs.Root.{is_runtime_label, is_session}
use Rattle.policy.specs.Settings.{Settings}
use Rattle.policy.specs.Caller.{Caller}
use Rattle.model.specs.World.{World, has}
use Rattle.model.specs.Sound.{IsSound}
use Rattle.model.specs.Request.{Request, add_text, add_source, import_object, info, set_permanent, drop_permanent}
use Rattle.model.specs.Request.{set_user_root, drop_user_root, set_profile, rollback, switch, delete_generation}
use Rattle.model.specs.Request.{replace_runtime, add_temp, end_session, collect, delete}
use Rattle.model.specs.Reply.{done, denied, refused, failed}
use Rattle.model.specs.Verdict.{verdict}
use Rattle.model.specs.Profiles.{profile_at, has_profile, has_generation, number_for, previous}
use Rattle.paths.specs.Decimal.{max_generation}
use Rattle.model.specs.Tests.{tests, refusal}
use Rattle.model.specs.Effects.{effect}
use Rattle.model.specs.Soundness.{IsWellFormed, KeepsSound, RunsKeepSound}
use Rattle.model.proofs.Passed.{met, each_passed}
use Rattle.model.proofs.SoundRemoval.{collected_sound, deleted_sound, limited_sound}
use Rattle.model.proofs.SoundAdds.{text_sound, source_sound, import_sound}
use Rattle.model.proofs.SoundRoots.{permanent_set, permanent_dropped, user_root_set, user_root_dropped}
use Rattle.model.proofs.SoundRoots.{runtime_replaced, temporary_added, session_ended}
use Rattle.model.proofs.SoundProfiles.{profile_set, profile_rolled_back, profile_switched, generation_deleted}

module _ (s : Settings) (w : World) (c : Caller) (sound : IsSound s.store_dir w) where
  done_sound : (q : Request) → verdict s w c q ≡ None → refusal s w q ≡ None → IsWellFormed q
      → IsSound s.store_dir (effect s w q)
  done_sound (add_text name refs contents) v e formed = text_sound s w sound name refs contents formed.0 formed.1 e
  done_sound (add_source name refs b) v e formed = source_sound s w sound name refs b formed.0 formed.1 e
  done_sound (import_object i) v e formed = import_sound s w sound i formed e
  done_sound (set_permanent name p) v e formed =
      permanent_set s.store_dir w sound name p
      (met (is_plain_name name) _ (each_passed (tests s w (set_permanent name p)) e _ (0, omega arith, refl)))
      (met (has w p) _ (each_passed (tests s w (set_permanent name p)) e _ (1, omega arith, refl)))
  done_sound (drop_permanent name) v e formed = permanent_dropped s.store_dir w sound name
  done_sound (set_user_root owner name p) v e formed =
      user_root_set s.store_dir w sound owner name p
      (met (is_plain_name owner && is_plain_name name) _
      (each_passed (tests s w (set_user_root owner name p)) e _ (0, omega arith, refl)))
      (met (has w p) _ (each_passed (tests s w (set_user_root owner name p)) e _ (1, omega arith, refl)))
  done_sound (drop_user_root owner name) v e formed = user_root_dropped s.store_dir w sound owner name
  done_sound (set_profile owner name p) v e formed =
      profile_set s.store_dir w sound owner name p
      (met (is_plain_name owner && is_plain_name name) _
      (each_passed (tests s w (set_profile owner name p)) e _ (0, omega arith, refl)))
      (met (has w p) _ (each_passed (tests s w (set_profile owner name p)) e _ (1, omega arith, refl)))
      (met (nat_le (number_for (profile_at w (owner, name)) p) max_generation) _
      (each_passed (tests s w (set_profile owner name p)) e _ (2, omega arith, refl)))
  done_sound (rollback owner name) v e formed =
      profile_rolled_back s.store_dir w sound owner name
      (met (has_profile w (owner, name)) _ (each_passed (tests s w (rollback owner name)) e _ (1, omega arith, refl)))
      (met (is_some (previous (profile_at w (owner, name)))) _
      (each_passed (tests s w (rollback owner name)) e _ (2, omega arith, refl)))
  done_sound (switch owner name n) v e formed =
      profile_switched s.store_dir w sound owner name n
      (met (has_profile w (owner, name)) _ (each_passed (tests s w (switch owner name n)) e _ (1, omega arith, refl)))
      (met (has_generation (profile_at w (owner, name)) n) _
      (each_passed (tests s w (switch owner name n)) e _ (2, omega arith, refl)))
  done_sound (delete_generation owner name n) v e formed =
      generation_deleted s.store_dir w sound owner name n
      (met (has_profile w (owner, name)) _
      (each_passed (tests s w (delete_generation owner name n)) e _ (1, omega arith, refl)))
      (met (not ((profile_at w (owner, name)).current == n)) _
      (each_passed (tests s w (delete_generation owner name n)) e _ (3, omega arith, refl)))
  done_sound (replace_runtime pairs) v e formed =
      runtime_replaced s.store_dir w sound pairs
      (met (list_all (λ p. is_runtime_label p.0) pairs) _
      (each_passed (tests s w (replace_runtime pairs)) e _ (0, omega arith, refl)))
  done_sound (add_temp owner session p) v e formed =
      temporary_added s.store_dir w sound (record { owner = owner; session = session; path = p })
      (met (is_plain_name owner) _ (each_passed (tests s w (add_temp owner session p)) e _ (0, omega arith, refl)))
      (met (is_session session) _ (each_passed (tests s w (add_temp owner session p)) e _ (1, omega arith, refl)))
      (met (has w p) _ (each_passed (tests s w (add_temp owner session p)) e _ (2, omega arith, refl)))
  done_sound (end_session owner session) v e formed = session_ended s.store_dir w sound owner session
  done_sound (collect ignores None) v e formed = collected_sound s w s.store_dir sound
  done_sound (collect ignores (Some limit)) v e formed = limited_sound s w s.store_dir sound limit
  done_sound (delete named ignores) v e formed = deleted_sound s w s.store_dir sound c named ignores v
  done_sound (info p) v e formed = sound
  done_sound _ v e formed = sound

pub keeps_sound : KeepsSound
keeps_sound s w c q (done a) new h formed sound =
    subst (λ (u : World). IsSound s.store_dir u) (sym h.3) (done_sound s w c sound q h.0 h.1 formed)
keeps_sound s w c q (denied rule root) new h formed sound = subst (λ (u : World). IsSound s.store_dir u) (sym h.2) sound
keeps_sound s w c q (refused r) new h formed sound = subst (λ (u : World). IsSound s.store_dir u) (sym h.2) sound
keeps_sound s w c q (failed f) new h formed sound = subst (λ (u : World). IsSound s.store_dir u) (sym h.1) sound

pub runs_keep_sound : RunsKeepSound
runs_keep_sound s w [] [] new h formed sound = subst (λ (u : World). IsSound s.store_dir u) (sym h) sound
runs_keep_sound s w (call ∷ calls) (reply ∷ replies) new h formed sound =
    runs_keep_sound s h.0 calls replies new h.2 formed.1 (keeps_sound s w call.0 call.1 reply h.0 h.1 formed.0 sound)
runs_keep_sound s w [] (reply ∷ replies) new h formed sound = absurd h
runs_keep_sound s w (call ∷ calls) [] new h formed sound = absurd h
