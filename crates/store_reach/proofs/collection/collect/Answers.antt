use Rattle.std.proofs.Common.{refl, sym, ap₂, ◌∙◌}
use Rattle.std.proofs.lemmas.Result.{err_from_is_err_and}
use Rattle.model.specs.Request.{collect}
use Rattle.model.specs.Reply.{freed}
use Rattle.model.specs.Effects.{effect}
use Rattle.tables_sql.specs.declared.failure.Failed.TheVariants.{Memory}
use Rattle.store_types.specs.declared.replies.Stop.TheVariants.{Failed}
use Rattle.store_reach.specs.Removal.{without}
use Rattle.store_promises.proofs.Written.{sound_as, met_by_stopping}
use Rattle.store_reach.proofs.Collected.{collected_left, sound_left}
use Rattle.store_reach.proofs.collection.collect.Goals as goal

pub remove-requires : goal.remove-requires
remove-requires g c =
    let s = c.args.config.now in
    let found = c.in_ok-found.found in
    let asked = collect c.args.ignores c.args.limit in
    sound_as g.S.Store c.args.tables.now (λ w. without w found.paths.items) (λ w. effect s w asked)
    (λ w t. collected_left s w c.args.ignores c.args.limit found.paths.items
    (c.in_ok-found.ensures.paths w (t.outline ∙ sym c.outline.ensures)))
    (λ w t. sound_left s w c.args.ignores c.args.limit c.args.tables.now.dir t.sound)

pub returns : goal.returns
returns g c caller =
    let s = c.args.config.now in
    let found = c.in_ok-found.found in
    c.remove.ensures s caller (collect c.args.ignores c.args.limit) refl (λ w is. record {
      passes = refl;
      answers =
          ap₂ freed (c.in_ok-found.ensures.paths w (is ∙ sym c.outline.ensures))
          (c.in_ok-found.ensures.bytes w (is ∙ sym c.outline.ensures));
      becomes =
          collected_left s w c.args.ignores c.args.limit found.paths.items
          (c.in_ok-found.ensures.paths w (is ∙ sym c.outline.ensures));
    })

pub returns-in_err-found : goal.returns-in_err-found
returns-in_err-found g c caller =
    let p = err_from_is_err_and c.from_residual.result c.from_residual.ensures.1 in
    rw (p.1, p.2) (met_by_stopping g.S.Store c.args.config.now caller (collect c.args.ignores c.args.limit)
    c.args.tables.now (Failed Memory) c.outline.result.now c.outline.ensures (λ w is. refl))
