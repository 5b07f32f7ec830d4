use Rattle.std.proofs.Common.{ℕ, List, Err, refl, subst}
use Rattle.std.proofs.lemmas.Result.{err_from_is_err_and}
use Rattle.model.specs.Request.{add_source}
use Rattle.model.specs.Adds.{added_source}
use Rattle.store_adds.specs.Parts.{added_view}
use Rattle.tables_writes.specs.Reasons.{AreAmong}
use Rattle.store_promises.specs.RowsPut.{ObjectRowsPut}
use Rattle.store_promises.proofs.Caused.{own_among}
use Rattle.store_promises.proofs.Untouched.{met_by_reading, reads_stopped}
use Rattle.store_adds.proofs.AddedObjects.{met_by_adding}
use Rattle.store_adds.proofs.AddedSources.{source_given, source_stopped, source_stays_sound}
use Rattle.intake.specs.Arrival.{bytes_in}
use Rattle.store_adds.proofs.sources.add_source.Goals as goal

pub add-requires : goal.add-requires
add-requires g c =
    source_stays_sound g.S.Store c.args.tables.now c.args.config.now c.args.name c.args.refs.items (bytes_in c.args.nar)
    (added_view c.in_ok-added.added) c.requires.dir c.as_str-text.ensures.valid c.in_ok-added.ensures.bytes
    (source_given c.args.name c.args.refs.items (bytes_in c.args.nar) c.outline.result.now c.args.tables.now.outline
    c.store_dir-dir.result.now c.args.config.now.store_dir
    c.outline.ensures c.store_dir-dir.ensures (added_view c.in_ok-added.added) c.in_ok-added.ensures.reported)

pub returns-clause-met : goal.returns-clause-met
returns-clause-met g c caller =
    met_by_adding g.S.Store c.args.config.now caller (add_source c.args.name c.args.refs.items (bytes_in c.args.nar))
    c.add.result c.args.tables.now c.add.new.tables
    (added_view c.in_ok-added.added)
    (added_source c.args.config.now.store_dir c.args.name c.args.refs.items (bytes_in c.args.nar))
    (source_given c.args.name c.args.refs.items (bytes_in c.args.nar) c.outline.result.now c.args.tables.now.outline
    c.store_dir-dir.result.now c.args.config.now.store_dir
    c.outline.ensures c.store_dir-dir.ensures (added_view c.in_ok-added.added) c.in_ok-added.ensures.reported)
    (λ w. refl) (λ w. refl) refl refl
    (subst (λ (d : List ℕ). AreAmong
    (ObjectRowsPut (added_source d c.args.name c.args.refs.items (bytes_in c.args.nar)))
    (ObjectRowsPut (added_source c.args.tables.now.dir c.args.name c.args.refs.items (bytes_in c.args.nar))))
    c.requires.dir (own_among (ObjectRowsPut
    (added_source c.args.tables.now.dir c.args.name c.args.refs.items (bytes_in c.args.nar))))) c.add.ensures

pub returns-in_err-added-clause-met : goal.returns-in_err-added-clause-met
returns-in_err-added-clause-met g c caller =
    let p = err_from_is_err_and c.from_residual.result c.from_residual.ensures.1 in
    rw (p.1, p.2) (met_by_reading g.S.Store c.args.config.now caller
    (add_source c.args.name c.args.refs.items (bytes_in c.args.nar)) (Err c.in_err-added.field-0.0)
    c.args.tables.now c.args.tables.now.outline refl
    (reads_stopped c.args.config.now caller c.args.tables.now.outline
    (add_source c.args.name c.args.refs.items (bytes_in c.args.nar)) c.in_err-added.field-0.0
    (source_stopped c.args.name c.args.refs.items (bytes_in c.args.nar) c.outline.result.now c.args.tables.now.outline
    c.store_dir-dir.result.now c.args.config.now.store_dir
    c.outline.ensures c.store_dir-dir.ensures c.in_err-added.field-0.0 c.in_err-added.ensures.reported)))
