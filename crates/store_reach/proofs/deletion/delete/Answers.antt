use Rattle.std.proofs.Common.{not, refl, sym, ◌∙◌}
use Rattle.std.proofs.lemmas.Result.{err_from_is_err_and}
use Rattle.model.specs.Effects.{keeping}
use Rattle.model.specs.Liveness.{is_deleted_with}
use Rattle.model.specs.Request.{delete}
use Rattle.store_reach.specs.Removal.{without}
use Rattle.store_reach.proofs.Collected.{others_left}
use Rattle.store_reach.proofs.DeletedRows.{deleted_as, found_paths, stopped_as}
use Rattle.store_promises.proofs.Written.{sound_as, met_by_stopping}
use Rattle.store_reach.proofs.deletion.delete.Goals as goal

pub remove-requires : goal.remove-requires
remove-requires g c =
    let named = c.args.named.items in
    let found = c.in_ok-found.found in
    sound_as g.S.Store c.args.tables.now (λ w. without w found.paths.items)
    (λ w. keeping w (λ p. not (is_deleted_with w named p)))
    (λ w t. others_left w named found.paths.items
    (found_paths named c.deref.result.now c.deref.ensures.value w found
    (c.in_ok-found.ensures w (t.outline ∙ sym c.outline.ensures)))) c.requires

pub returns : goal.returns
returns g c s caller =
    c.remove.ensures s caller (delete c.args.named.items c.args.ignores) refl
    (λ w is. deleted_as c.args.named.items c.deref.result.now c.deref.ensures.value w c.in_ok-found.found
    (c.in_ok-found.ensures w (is ∙ sym c.outline.ensures)) s caller c.args.ignores)

pub returns-in_err-found : goal.returns-in_err-found
returns-in_err-found g c s caller =
    let p = err_from_is_err_and c.from_residual.result c.from_residual.ensures.1 in
    rw (p.1, p.2) (met_by_stopping g.S.Store s caller (delete c.args.named.items c.args.ignores) c.args.tables.now
    c.in_err-found.field-0.0 c.outline.result.now c.outline.ensures
    (λ w is. stopped_as c.args.named.items c.deref.result.now c.deref.ensures.value w s c.args.ignores
    c.in_err-found.field-0.0 (c.in_err-found.ensures w is)))
