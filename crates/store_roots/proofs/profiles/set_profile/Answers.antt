use Rattle.std.proofs.Common.{refl, sym, ap, ap₂, subst, ◌∙◌, arith}
use Rattle.std.proofs.lemmas.Result.{err_from_is_err_and}
use Rattle.std.specs.Prelude.{string_bytes}
use Rattle.model.specs.World.{Pair}
use Rattle.model.specs.Profiles.{number_for, set_to}
use Rattle.tables_outline.specs.Outline.{OutlineValue, profile_of}
use Rattle.model.specs.Request.{set_profile}
use Rattle.model.specs.Reply.{generation}
use Rattle.store_types.specs.declared.replies.Answer.TheVariants.{Generation}
use Rattle.store_types.specs.declared.replies.Stop.TheVariants.{Refused}
use Rattle.tables_writes.specs.Reasons.{AreAmong}
use Rattle.tables_writes.specs.RowsPut.{GenerationRows}
use Rattle.store_promises.specs.RowsPut.{AnyGenerationRows}
use Rattle.store_promises.proofs.Written.{met_by_stopping}
use Rattle.store_promises.proofs.Fits.{no_settings, profile_fits}
use Rattle.store_roots.proofs.ProfileChanges.{met_by_changing, same_owned, sound_changed}
use Rattle.store_roots.proofs.profiles.set_profile.Goals as goal

pub set_profile-requires-clause-number : goal.set_profile-requires-clause-number
set_profile-requires-clause-number g c =
    c.in_ok-number.ensures.number
    ∙ ap₂ (λ (o : OutlineValue) (p : Pair). number_for (profile_of o p) c.args.path) c.outline.ensures
    (sym (same_owned c.as_str.ensures.value c.as_str-2.ensures.value))

pub set_profile-requires-clause-sound : goal.set_profile-requires-clause-sound
set_profile-requires-clause-sound g c =
    sound_changed c.as_str.ensures.value c.as_str-2.ensures.value g.S.Store c.args.tables.now
    (λ p. set_to p c.args.path)
    (λ w t. profile_fits c.args.tables.now.dir w t.sound (string_bytes c.args.owned.0) (string_bytes c.args.owned.1)
    c.args.path
    (c.in_ok-number.ensures.reported no_settings w (t.outline ∙ sym c.outline.ensures)).0)

pub returns-in_err-number : goal.returns-in_err-number
returns-in_err-number g c s caller =
    let p = err_from_is_err_and c.from_residual.result c.from_residual.ensures.1 in
    rw (p.1, p.2) (met_by_stopping g.S.Store s caller
    (set_profile (string_bytes c.args.owned.0) (string_bytes c.args.owned.1) c.args.path) c.args.tables.now
    (Refused c.in_err-number.field-0.0) c.outline.result.now c.outline.ensures
    (λ w is. c.in_err-number.ensures.reported s w is))

pub returns : goal.returns
returns g c s caller =
    met_by_changing c.as_str.ensures.value c.as_str-2.ensures.value g.S.Store c.args.tables.now
    (λ p. set_to p c.args.path)
    s caller (set_profile (string_bytes c.args.owned.0) (string_bytes c.args.owned.1) c.args.path)
    c.set_profile.new.self c.outline.result.now c.outline.ensures (Generation c.in_ok-number.number)
    (λ w is. let numbered = c.in_ok-number.ensures.reported s w is in (numbered.0, ap generation numbered.1, refl))
    (GenerationRows (c.as_str.result.now, c.as_str-2.result.now) c.in_ok-number.number c.args.path
    c.in_ok-number.number)
    (subst (λ (o : Pair). AreAmong
    (GenerationRows (c.as_str.result.now, c.as_str-2.result.now) c.in_ok-number.number c.args.path
    c.in_ok-number.number) (AnyGenerationRows o c.args.path))
    (same_owned c.as_str.ensures.value c.as_str-2.ensures.value)
    (record { count = omega arith; has = λ t row h. (c.in_ok-number.number, c.in_ok-number.number, h) }))
    refl (λ t row put. refl)
    c.set_profile.result c.set_profile.ensures c.answered.result c.answered.ensures
