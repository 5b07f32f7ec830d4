-- What the texts mean that make the store's tables, in any schema that has nothing of their names.
use Rattle.std.proofs.Common.{ℕ, List, refl}
use Rattle.sqlite_value.specs.Order.{value_cmp}
use Rattle.sqlite_trees.specs.Sound.{fits_kind, is_free_name, same_name, begins}
use Rattle.sqlite_schema.specs.declared.schema.Schema.{Schema}
use Rattle.sqlite_schema.specs.declared.schema.Table.{Table}
use Rattle.sqlite_tied.specs.Compute.{everything}
use Rattle.tables_schema.specs.StoreTables.{form}
use Rattle.tables_schema.specs.Presence.{IsFree}
use Rattle.tables_schema.specs.declared.store_table.StoreTable.{StoreTable}
use Rattle.tables_schema.specs.declared.store_table.StoreTable.TheVariants.{Meta}
use Rattle.tables_make.specs.NewTables.{making_text}
use Rattle.tables_make.proofs.Creates.{IsMakingIn, making, create_means}
use Rattle.tables_make.proofs.MakingFailures.{IsAccepted}

-- the text makes the table, and is accepted
pub record IsCreating (text : List ℕ) (table : Table) : Type 0 where
  pub makes : (s : Schema) → IsFree s table.name → IsMakingIn s text table
  pub accepted : IsAccepted text table

pub texts_are : (t : StoreTable) → IsCreating (making_text t) (form t)
unfolding everything fits_kind is_free_name same_name begins value_cmp lib.Ieee.is_nan lib.Ieee.lt lib.Utf8.encode
texts_are Meta = record {
  makes =
      λ s free. making s (making_text Meta) (form Meta) _
      (create_means (making_text Meta) refl s (form Meta) free refl refl refl refl refl refl) refl refl (refl, refl)
      refl refl refl;
  accepted =
      record {
        defined = refl;
        utf8 = (making_text Meta, (refl, refl));
        named = ((form Meta).name, (refl, refl));
        own = refl;
        short = refl;
        reals = refl;
        key = refl;
        formed = refl;
        fit = refl;
      };
}
texts_are t = record {
  makes =
      λ s free. making s (making_text t) (form t) _
      (create_means (making_text t) refl s (form t) free refl refl refl refl refl refl) refl refl (refl, refl) refl refl
      refl;
  accepted =
      record {
        defined = refl;
        utf8 = (making_text t, (refl, refl));
        named = ((form t).name, (refl, refl));
        own = refl;
        short = refl;
        reals = refl;
        key = refl;
        formed = refl;
        fit = refl;
      };
}
