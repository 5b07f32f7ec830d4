use Rattle.std.proofs.Common.{refl, sym, ◌∙◌}
use Rattle.std.proofs.lemmas.Result.{err_from_is_err_and}
use Rattle.std.specs.Prelude.{string_bytes}
use Rattle.model.specs.Profiles.{without_generation}
use Rattle.model.specs.Request.{delete_generation}
use Rattle.store_types.specs.declared.replies.Answer.TheVariants.{Changed}
use Rattle.store_types.specs.declared.replies.Stop.TheVariants.{Refused}
use Rattle.tables_writes.specs.Reasons.{NoRow}
use Rattle.store_promises.proofs.Caused.{own_among}
use Rattle.store_promises.proofs.Written.{met_by_stopping}
use Rattle.store_promises.proofs.Fits.{no_settings, deletion_fits}
use Rattle.store_roots.proofs.ProfileChanges.{met_by_changing, present_as, sound_changed}
use Rattle.store_roots.proofs.profiles.delete_generation.Goals as goal

pub drop_generation-requires-clause-present : goal.drop_generation-requires-clause-present
drop_generation-requires-clause-present g c =
    present_as c.as_str.ensures.value c.as_str-2.ensures.value c.outline.result.now c.args.tables.now.outline
    c.outline.ensures c.in_ok-may_delete.ensures.present

pub drop_generation-requires-clause-sound : goal.drop_generation-requires-clause-sound
drop_generation-requires-clause-sound g c =
    sound_changed c.as_str.ensures.value c.as_str-2.ensures.value g.S.Store c.args.tables.now
    (λ p. without_generation p c.args.number)
    (λ w t. deletion_fits c.args.tables.now.dir w t.sound (string_bytes c.args.owned.0) (string_bytes c.args.owned.1)
    c.args.number
    (c.in_ok-may_delete.ensures.reported no_settings w (t.outline ∙ sym c.outline.ensures)))

pub returns-in_err-may_delete : goal.returns-in_err-may_delete
returns-in_err-may_delete g c s caller =
    let p = err_from_is_err_and c.from_residual.result c.from_residual.ensures.1 in
    rw (p.1, p.2) (met_by_stopping g.S.Store s caller
    (delete_generation (string_bytes c.args.owned.0) (string_bytes c.args.owned.1) c.args.number)
    c.args.tables.now (Refused c.in_err-may_delete.field-0.0) c.outline.result.now c.outline.ensures
    (λ w is. c.in_err-may_delete.ensures.reported s w is))

pub returns : goal.returns
returns g c s caller =
    met_by_changing c.as_str.ensures.value c.as_str-2.ensures.value g.S.Store c.args.tables.now
    (λ p. without_generation p c.args.number)
    s caller (delete_generation (string_bytes c.args.owned.0) (string_bytes c.args.owned.1) c.args.number)
    c.drop_generation.new.self c.outline.result.now c.outline.ensures Changed
    (λ w is. (c.in_ok-may_delete.ensures.reported s w is, refl, refl))
    NoRow (own_among NoRow) refl (λ t row none. absurd none)
    c.drop_generation.result c.drop_generation.ensures c.answered.result c.answered.ensures
