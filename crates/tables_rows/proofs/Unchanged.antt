-- A read among writes.
use Rattle.std.proofs.Common.{◌≡◌, false, refl, sym, ap, subst, ◌∙◌}
use Rattle.sqlite_trees.proofs.ListLemmas.{all_of}
use Rattle.sqlite_schema.specs.declared.schema.Table.{Table}
use Rattle.sqlite.specs.Effect.{Database}
use Rattle.sqlite.specs.State.{State, IsUnchanged}
use Rattle.tables_schema.specs.Forms.{piece, temp_root, names_store_table}
use Rattle.tables_sql.specs.Contents.{contents_of}
use Rattle.tables_sql.specs.Calls.{IsStoreDatabase, IsUnderWay, HasFurther, KeepsFurther, KeepsForeignRows, Changes}

-- a read changes nothing
pub changes_nothing : (a b : State) → IsUnderWay a → IsUnchanged a b → Changes a b (λ c. c)
unfolding KeepsFurther
changes_nothing a b under same =
    let now = same.0.now_is in
    record {
      was_open = same.0.was_open;
      is_open = same.0.is_open;
      schema = ap (λ (x : Database). x.schema) now;
      contents = ap contents_of now;
      foreign_rows =
          subst (λ (x : Database). KeepsForeignRows a.now x) (sym now)
          (all_of (λ (t : Table). names_store_table t.name ≡ false → a.now.trees t.tree ≡ a.now.trees t.tree)
          (λ t other. refl) a.now.schema.tables);
      unshown = λ tree hidden. ap (λ (x : Database). x.trees tree) now;
      of_store = subst IsStoreDatabase (sym now) (under.of_store same.0.was_open);
      further = (
        λ present. subst (λ (x : Database). HasFurther x piece) (sym now) present,
        (λ present. subst (λ (x : Database). HasFurther x temp_root) (sym now) present, tt),
      );
      committed = same.0.committed_is;
      mode = same.0.mode ∙ under.mode;
      marks = same.2;
    }
