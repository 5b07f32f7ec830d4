use Rattle.std.proofs.Common.{ℕ, Option, refl, sym, ap, subst, ◌∙◌, arith}
use Rattle.std.proofs.lemmas.Result.{err_from_is_err_and}
use Rattle.std.specs.Prelude.{string_bytes, unwrap_or}
use Rattle.model.specs.World.{Pair, World}
use Rattle.model.specs.Sound.{IsSound}
use Rattle.model.specs.Profiles.{profile_at, switched}
use Rattle.model.specs.Request.{rollback}
use Rattle.model.specs.Reply.{generation}
use Rattle.store_types.specs.declared.replies.Answer.TheVariants.{Generation}
use Rattle.store_types.specs.declared.replies.Stop.TheVariants.{Refused}
use Rattle.tables_writes.specs.Reasons.{AreAmong}
use Rattle.tables_writes.specs.RowsPut.{ProfileRow}
use Rattle.store_promises.specs.RowsPut.{AnyProfileRow}
use Rattle.store_promises.proofs.Written.{met_by_stopping}
use Rattle.store_promises.proofs.Fits.{no_settings, rollback_fits}
use Rattle.store_roots.proofs.ProfileChanges.{met_by_changing, present_as, rolled_to, same_owned, sound_changed}
use Rattle.store_roots.proofs.profiles.rollback.Goals as goal

pub switch_generation-requires-clause-present : goal.switch_generation-requires-clause-present
switch_generation-requires-clause-present g c =
    present_as c.as_str.ensures.value c.as_str-2.ensures.value c.outline.result.now c.args.tables.now.outline
    c.outline.ensures c.in_ok-number.ensures.tested.present

pub switch_generation-requires-clause-sound : goal.switch_generation-requires-clause-sound
switch_generation-requires-clause-sound g c =
    let dir = c.args.tables.now.dir in
    sound_changed c.as_str.ensures.value c.as_str-2.ensures.value g.S.Store c.args.tables.now
    (λ p. switched p c.in_ok-number.number)
    (λ w t.
    let reported = t.outline ∙ sym c.outline.ensures in
    subst (λ (v : World). IsSound dir v)
    (sym (rolled_to c.as_str.ensures.value c.as_str-2.ensures.value c.in_ok-number.number w
    (c.in_ok-number.ensures.number w reported)))
    (rollback_fits dir w t.sound (string_bytes c.args.owned.0) (string_bytes c.args.owned.1)
    (c.in_ok-number.ensures.tested.reported no_settings w reported)))

pub returns-in_err-number : goal.returns-in_err-number
returns-in_err-number g c s caller =
    let p = err_from_is_err_and c.from_residual.result c.from_residual.ensures.1 in
    rw (p.1, p.2) (met_by_stopping g.S.Store s caller
    (rollback (string_bytes c.args.owned.0) (string_bytes c.args.owned.1)) c.args.tables.now
    (Refused c.in_err-number.field-0.0) c.outline.result.now c.outline.ensures
    (λ w is. c.in_err-number.ensures.tested.reported s w is))

pub returns : goal.returns
returns g c s caller =
    let owner = string_bytes c.args.owned.0 in
    let name = string_bytes c.args.owned.1 in
    met_by_changing c.as_str.ensures.value c.as_str-2.ensures.value g.S.Store c.args.tables.now
    (λ p. switched p c.in_ok-number.number)
    s caller (rollback owner name) c.switch_generation.new.self c.outline.result.now c.outline.ensures
    (Generation c.in_ok-number.number)
    (λ w is.
    let below = c.in_ok-number.ensures.number w is in (
      c.in_ok-number.ensures.tested.reported s w is,
      ap (λ (r : Option ℕ). generation (unwrap_or r (profile_at w (owner, name)).current)) below,
      rolled_to c.as_str.ensures.value c.as_str-2.ensures.value c.in_ok-number.number w below,
    ))
    (ProfileRow (c.as_str.result.now, c.as_str-2.result.now) c.in_ok-number.number)
    (subst (λ (o : Pair). AreAmong (ProfileRow (c.as_str.result.now, c.as_str-2.result.now) c.in_ok-number.number)
    (AnyProfileRow o)) (same_owned c.as_str.ensures.value c.as_str-2.ensures.value)
    (record { count = omega arith; has = λ t row h. (c.in_ok-number.number, h) }))
    refl (λ t row put. refl)
    c.switch_generation.result c.switch_generation.ensures c.answered.result c.answered.ensures
