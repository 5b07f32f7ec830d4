-- A sound world from which paths are removed that no root keeps and no other path refers to.
use Rattle.std.proofs.Common.{◌≡◌, ℕ, List, [], Bool, not, Some, None, refl, ap, ◌∙◌, IsTrue}
use Rattle.std.specs.Prelude.{Contains, is_some}
use Rattle.std.specs.FinMap as finite
use Rattle.std.proofs.lemmas.Bool.{not_from_false}
use Rattle.paths.specs.Root.{Root}
use Rattle.live.proofs.Reach.{goes_on, reach_kept}
use Rattle.live.proofs.Live.{live_decided}
use Rattle.policy.specs.Settings.{Settings}
use Rattle.policy.specs.Caller.{Caller}
use Rattle.model.specs.World.{Path, Object, World, has, permanent_root, user_root, generation_root, runtime_root}
use Rattle.model.specs.World.{temporary_root, roots_of}
use Rattle.model.specs.Sound.{IsSound}
use Rattle.model.specs.Request.{delete}
use Rattle.model.specs.Liveness.{graph_of, keep_of, lives, is_deleted_with}
use Rattle.model.specs.Verdict.{verdict}
use Rattle.model.specs.Effects.{keeping}
use Rattle.model.proofs.Worlds.{valid_is, live_of, kept_if, found_in}
use Rattle.model.proofs.EveryRoot.{each_root}
use Rattle.model.proofs.Limited.{leaves, live_left, reference_stays}
use Rattle.model.proofs.Pins.{stays, nothing_live}
use Rattle.model.proofs.Deleting.{reference_reached, reference_left}
use Rattle.model.proofs.SoundParts.{object_in, profile_in}

module _ (s : Settings) (w : World) (test : Path → Bool) (lasts : (p : Path) → IsTrue (lives s w p) → IsTrue (test p))
    (closed : (p : Path) (o : Object) → finite.get (keeping w test).objects p ≡ Some o → (r : Path)
    → IsTrue (finite.contains_key o.references r) → IsTrue (has w r) → IsTrue (has (keeping w test) r)) where
  target_left : (r : Root) → Contains (roots_of w) r → IsTrue (has w r.target) → IsTrue (has (keeping w test) r.target)
  target_left r c h =
      ap is_some (kept_if w.objects test r.target
      (lasts r.target (live_of s w r r.target c
      (record { valid = valid_is w r.target ∙ h; steps = []; leads = refl })))) ∙ h

  pub removed_sound : (dir : List ℕ) → IsSound dir w → IsSound dir (keeping w test)
  removed_sound dir sound = record {
    objects = λ p o e.
        let was = found_in w.objects test p o e in
        object_in dir w (keeping w test) p o (sound.objects p o was.1)
        (λ r c. closed p o e r c ((sound.objects p o was.1).references r c));
    permanent_name = sound.permanent_name;
    permanent_target =
        λ name t e. target_left (permanent_root (name, t)) ((each_root w).permanent name t e)
        (sound.permanent_target name t e);
    user_root_owner = sound.user_root_owner;
    user_root_name = sound.user_root_name;
    user_root_target =
        λ owned t e. target_left (user_root (owned, t)) ((each_root w).user owned t e)
        (sound.user_root_target owned t e);
    profiles = λ owned p e.
        profile_in w (keeping w test) owned p (sound.profiles owned p e)
        (λ n t f. target_left (generation_root owned (n, t)) ((each_root w).generation owned p n t e f)
        ((sound.profiles owned p e).targets n t f));
    runtime_label = sound.runtime_label;
    runtime_target = λ x h. target_left (runtime_root x) ((each_root w).runtime x h) (sound.runtime_target x h);
    temporary_owner = sound.temporary_owner;
    temporary_session = sound.temporary_session;
    temporary_target = λ t h. target_left (temporary_root t) ((each_root w).temporary t h) (sound.temporary_target t h);
  }

module _ (s : Settings) (w : World) (dir : List ℕ) (sound : IsSound dir w) where
  live_reference : (p : Path) (o : Object) → finite.get (keeping w (lives s w)).objects p ≡ Some o → (r : Path)
      → IsTrue (finite.contains_key o.references r) → IsTrue (has w r) → IsTrue (has (keeping w (lives s w)) r)
  live_reference p o e r c h =
      let was = found_in w.objects (lives s w) p o e in
      let l = (live_decided (keep_of s) (graph_of w) (roots_of w) p).0 was.0 in
      let on =
      goes_on (keep_of s) (graph_of w) l.root.target p r l.reaches
      (reach_kept (keep_of s) (graph_of w) p r (reference_reached w p r o was.1 c h)) in
      ap is_some (kept_if w.objects (lives s w) r (live_of s w l.root r l.listed on)) ∙ h

  pub collected_sound : IsSound dir (keeping w (lives s w))
  collected_sound = removed_sound s w (lives s w) (λ p h. h) live_reference dir sound

  pub limited_sound : (limit : ℕ) → IsSound dir (keeping w (leaves s w limit))
  limited_sound limit = removed_sound s w (leaves s w limit) (live_left s w limit) (reference_stays s w limit) dir sound

  pub deleted_sound : (c : Caller) (named : List Path) (ignores : Bool) → verdict s w c (delete named ignores) ≡ None
      → IsSound dir (keeping w (λ p. not (is_deleted_with w named p)))
  deleted_sound c named ignores v =
      removed_sound s w (λ p. not (is_deleted_with w named p))
      (λ p h. not_from_false (is_deleted_with w named p) (stays s w named p (nothing_live s w c named ignores v) h))
      (reference_left w named) dir sound
