use Rattle.std.proofs.Common.{ℕ, List, Err, refl, subst}
use Rattle.std.proofs.lemmas.Result.{err_from_is_err_and}
use Rattle.nar.specs.Tree.{IsBytes}
use Rattle.model.specs.Request.{add_text}
use Rattle.model.specs.Adds.{added_text}
use Rattle.store_adds.specs.Parts.{added_view}
use Rattle.tables_writes.specs.Reasons.{AreAmong}
use Rattle.store_promises.specs.RowsPut.{ObjectRowsPut}
use Rattle.store_promises.proofs.Caused.{own_among}
use Rattle.store_promises.proofs.Untouched.{met_by_reading, reads_stopped}
use Rattle.store_adds.proofs.AddedObjects.{met_by_adding, text_given, text_stopped, text_stays_sound}
use Rattle.store_adds.proofs.adds.add_text.Goals as goal

pub add-requires : goal.add-requires
add-requires g c =
    let bytes : IsBytes c.args.contents.items = subst IsBytes c.deref.ensures.value c.in_ok-added.ensures.bytes in
    text_stays_sound g.S.Store c.args.tables.now c.args.config.now c.args.name c.args.refs.items c.args.contents.items
    (added_view c.in_ok-added.added) c.requires.dir c.as_str-text.ensures.valid bytes
    (text_given c.args.name c.args.refs.items c.outline.result.now c.args.tables.now.outline c.store_dir-dir.result.now
    c.args.config.now.store_dir c.deref.result.now c.args.contents.items
    c.outline.ensures c.store_dir-dir.ensures c.deref.ensures.value (added_view c.in_ok-added.added)
    c.in_ok-added.ensures.reported)

pub returns : goal.returns
returns g c caller =
    met_by_adding g.S.Store c.args.config.now caller (add_text c.args.name c.args.refs.items c.args.contents.items)
    c.add.result c.args.tables.now c.add.new.tables
    (added_view c.in_ok-added.added)
    (added_text c.args.config.now.store_dir c.args.name c.args.refs.items c.args.contents.items)
    (text_given c.args.name c.args.refs.items c.outline.result.now c.args.tables.now.outline c.store_dir-dir.result.now
    c.args.config.now.store_dir c.deref.result.now c.args.contents.items
    c.outline.ensures c.store_dir-dir.ensures c.deref.ensures.value (added_view c.in_ok-added.added)
    c.in_ok-added.ensures.reported)
    (λ w. refl) (λ w. refl) refl refl
    (subst (λ (d : List ℕ). AreAmong (ObjectRowsPut (added_text d c.args.name c.args.refs.items c.args.contents.items))
    (ObjectRowsPut (added_text c.args.tables.now.dir c.args.name c.args.refs.items c.args.contents.items)))
    c.requires.dir (own_among (ObjectRowsPut
    (added_text c.args.tables.now.dir c.args.name c.args.refs.items c.args.contents.items)))) c.add.ensures

pub returns-in_err-added : goal.returns-in_err-added
returns-in_err-added g c caller =
    let p = err_from_is_err_and c.from_residual.result c.from_residual.ensures.1 in
    rw (p.1, p.2) (met_by_reading g.S.Store c.args.config.now caller
    (add_text c.args.name c.args.refs.items c.args.contents.items) (Err c.in_err-added.field-0.0)
    c.args.tables.now c.args.tables.now.outline refl
    (reads_stopped c.args.config.now caller c.args.tables.now.outline
    (add_text c.args.name c.args.refs.items c.args.contents.items) c.in_err-added.field-0.0
    (text_stopped c.args.name c.args.refs.items c.outline.result.now c.args.tables.now.outline
    c.store_dir-dir.result.now c.args.config.now.store_dir c.deref.result.now c.args.contents.items
    c.outline.ensures c.store_dir-dir.ensures c.deref.ensures.value c.in_err-added.field-0.0
    c.in_err-added.ensures.reported)))
