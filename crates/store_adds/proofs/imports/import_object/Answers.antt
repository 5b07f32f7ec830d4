use Rattle.std.proofs.Common.{ℕ, List, Err, refl, subst}
use Rattle.std.proofs.lemmas.Result.{err_from_is_err_and}
use Rattle.model.specs.Request.{import_object}
use Rattle.model.specs.Adds.{added_import}
use Rattle.store_adds.specs.Parts.{added_view}
use Rattle.store_types.specs.View.{import_view}
use Rattle.tables_writes.specs.Reasons.{AreAmong}
use Rattle.store_promises.specs.RowsPut.{ObjectRowsPut}
use Rattle.store_promises.proofs.Caused.{own_among}
use Rattle.store_promises.proofs.Untouched.{met_by_reading, reads_stopped}
use Rattle.store_adds.proofs.AddedObjects.{met_by_adding}
use Rattle.store_adds.proofs.AddedImports.{import_given, import_stopped, import_stays_sound}
use Rattle.store_adds.proofs.imports.import_object.Goals as goal

pub add-requires : goal.add-requires
add-requires g c =
    import_stays_sound g.S.Store c.args.tables.now c.args.config.now (import_view c.args.import)
    (added_view c.in_ok-added.added) c.requires.dir c.in_ok-added.ensures.formed
    (import_given (import_view c.args.import) c.outline.result.now c.args.tables.now.outline c.store_dir-dir.result.now
    c.args.config.now.store_dir
    c.outline.ensures c.store_dir-dir.ensures (added_view c.in_ok-added.added) c.in_ok-added.ensures.reported)

pub returns-clause-met : goal.returns-clause-met
returns-clause-met g c caller =
    met_by_adding g.S.Store c.args.config.now caller (import_object (import_view c.args.import)) c.add.result
    c.args.tables.now c.add.new.tables
    (added_view c.in_ok-added.added) (added_import c.args.config.now.store_dir (import_view c.args.import))
    (import_given (import_view c.args.import) c.outline.result.now c.args.tables.now.outline c.store_dir-dir.result.now
    c.args.config.now.store_dir
    c.outline.ensures c.store_dir-dir.ensures (added_view c.in_ok-added.added) c.in_ok-added.ensures.reported)
    (λ w. refl) (λ w. refl) refl refl
    (subst (λ (d : List ℕ). AreAmong (ObjectRowsPut (added_import d (import_view c.args.import)))
    (ObjectRowsPut (added_import c.args.tables.now.dir (import_view c.args.import)))) c.requires.dir
    (own_among (ObjectRowsPut (added_import c.args.tables.now.dir (import_view c.args.import))))) c.add.ensures

pub returns-in_err-added-clause-met : goal.returns-in_err-added-clause-met
returns-in_err-added-clause-met g c caller =
    let p = err_from_is_err_and c.from_residual.result c.from_residual.ensures.1 in
    rw (p.1, p.2) (met_by_reading g.S.Store c.args.config.now caller (import_object (import_view c.args.import))
    (Err c.in_err-added.field-0.0) c.args.tables.now c.args.tables.now.outline refl
    (reads_stopped c.args.config.now caller c.args.tables.now.outline (import_object (import_view c.args.import))
    c.in_err-added.field-0.0
    (import_stopped (import_view c.args.import) c.outline.result.now c.args.tables.now.outline
    c.store_dir-dir.result.now c.args.config.now.store_dir
    c.outline.ensures c.store_dir-dir.ensures c.in_err-added.field-0.0 c.in_err-added.ensures.reported)))
