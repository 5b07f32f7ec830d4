use Rattle.std.proofs.Common.{Result, refl, sym, ap, subst, ◌∙◌}
use Rattle.store_types.specs.declared.replies.Answer.{Answer}
use Rattle.store_types.specs.declared.replies.Answer.TheVariants.{Freed}
use Rattle.store_types.specs.declared.replies.Stop.{Stop}
use Rattle.store_promises.specs.Meets.{IsMet}
use Rattle.store_reach.specs.Removal.{without}
use Rattle.tables_writes.specs.Reasons.{NoRow}
use Rattle.store_promises.specs.RowsPut.{rows_put}
use Rattle.store_promises.proofs.Caused.{none_among, write_fails}
use Rattle.store_promises.proofs.Written.{sound_as}
use Rattle.store_reach.proofs.Removed.{met_by_none, met_by_removing}
use Rattle.store_reach.proofs.removal.remove.Goals as goal

pub returns-then-is_nothing : goal.returns-then-is_nothing
returns-then-is_nothing g c s caller q touches removes =
    let found = c.args.found in
    met_by_none g.S.Store s caller q c.args.tables.now found.paths.items found.bytes (Freed found.paths found.bytes)
    refl removes
    (sym c.deref.ensures.value ∙ c.is_nothing.ensures.none c.if-is_nothing.true)

pub remove_objects-requires : goal.remove_objects-requires
remove_objects-requires g c = record {
  sound =
      sound_as g.S.Store c.args.tables.now (λ w. without w c.deref-2.result.now)
      (λ w. without w c.args.found.paths.items) (λ w t. ap (without w) c.deref-2.ensures.value) c.requires;
}

pub returns : goal.returns
returns g c s caller q touches removes =
    let found = c.args.found in
    subst (λ (r : Result Answer Stop). IsMet g.S.Store s caller q r c.args.tables.now c.remove_objects.new.self)
    (sym c.answered.ensures)
    (met_by_removing g.S.Store s caller q c.args.tables.now found.paths.items found.bytes
    (Freed found.paths found.bytes) refl removes c.remove_objects.new.self c.deref-2.result.now
    c.deref-2.ensures.value
    c.remove_objects.result c.remove_objects.ensures.frame
    (write_fails g.S.Store q c.args.tables.now c.remove_objects.new.self touches NoRow
    (none_among (rows_put c.args.tables.now.dir c.args.tables.now.outline q)) (λ t row none. absurd none)
    (Freed found.paths found.bytes) c.remove_objects.result c.remove_objects.ensures.cause))
