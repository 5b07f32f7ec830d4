use Rattle.std.proofs.Common.{refl, sym, subst, ◌∙◌}
use Rattle.std.proofs.lemmas.Result.{err_from_is_err_and}
use Rattle.std.specs.Prelude.{string_bytes}
use Rattle.model.specs.World.{Pair}
use Rattle.model.specs.Profiles.{switched}
use Rattle.model.specs.Request.{switch}
use Rattle.store_types.specs.declared.replies.Answer.TheVariants.{Generation}
use Rattle.store_types.specs.declared.replies.Stop.TheVariants.{Refused}
use Rattle.tables_writes.specs.Reasons.{AreAmong}
use Rattle.tables_writes.specs.RowsPut.{ProfileRow}
use Rattle.store_promises.proofs.Caused.{own_among}
use Rattle.store_promises.proofs.Written.{met_by_stopping}
use Rattle.store_promises.proofs.Fits.{no_settings, switch_fits}
use Rattle.store_roots.proofs.ProfileChanges.{met_by_changing, present_as, same_owned, sound_changed}
use Rattle.store_roots.proofs.profiles.switch.Goals as goal

pub switch_generation-requires-clause-present : goal.switch_generation-requires-clause-present
switch_generation-requires-clause-present g c =
    present_as c.as_str.ensures.value c.as_str-2.ensures.value c.outline.result.now c.args.tables.now.outline
    c.outline.ensures c.in_ok-may_switch.ensures.present

pub switch_generation-requires-clause-sound : goal.switch_generation-requires-clause-sound
switch_generation-requires-clause-sound g c =
    sound_changed c.as_str.ensures.value c.as_str-2.ensures.value g.S.Store c.args.tables.now
    (λ p. switched p c.args.number)
    (λ w t. switch_fits c.args.tables.now.dir w t.sound (string_bytes c.args.owned.0) (string_bytes c.args.owned.1)
    c.args.number
    (c.in_ok-may_switch.ensures.reported no_settings w (t.outline ∙ sym c.outline.ensures)))

pub returns-in_err-may_switch : goal.returns-in_err-may_switch
returns-in_err-may_switch g c s caller =
    let p = err_from_is_err_and c.from_residual.result c.from_residual.ensures.1 in
    rw (p.1, p.2) (met_by_stopping g.S.Store s caller
    (switch (string_bytes c.args.owned.0) (string_bytes c.args.owned.1) c.args.number) c.args.tables.now
    (Refused c.in_err-may_switch.field-0.0) c.outline.result.now c.outline.ensures
    (λ w is. c.in_err-may_switch.ensures.reported s w is))

pub returns : goal.returns
returns g c s caller =
    met_by_changing c.as_str.ensures.value c.as_str-2.ensures.value g.S.Store c.args.tables.now
    (λ p. switched p c.args.number)
    s caller (switch (string_bytes c.args.owned.0) (string_bytes c.args.owned.1) c.args.number)
    c.switch_generation.new.self c.outline.result.now c.outline.ensures (Generation c.args.number)
    (λ w is. (c.in_ok-may_switch.ensures.reported s w is, refl, refl))
    (ProfileRow (c.as_str.result.now, c.as_str-2.result.now) c.args.number)
    (subst (λ (o : Pair). AreAmong (ProfileRow (c.as_str.result.now, c.as_str-2.result.now) c.args.number)
    (ProfileRow o c.args.number)) (same_owned c.as_str.ensures.value c.as_str-2.ensures.value)
    (own_among (ProfileRow (c.as_str.result.now, c.as_str-2.result.now) c.args.number)))
    refl (λ t row put. refl)
    c.switch_generation.result c.switch_generation.ensures c.answered.result c.answered.ensures
