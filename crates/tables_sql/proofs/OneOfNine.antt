-- A table that every schema of the store has, described: that all nine are there says enough of it.
use Rattle.std.proofs.Common.{◌≡◌, List, Bool, true, length}
use Rattle.std.specs.declared.cmp.Ordering.{Ordering}
use Rattle.std.specs.Cmp.{IsTotalOrder}
use Rattle.std.specs.FinMap as finite
use Rattle.sqlite_value.specs.Order.{Row}
use Rattle.sqlite_schema.specs.declared.schema.Schema.{Schema}
use Rattle.sqlite_schema.specs.declared.schema.Table.{Table}
use Rattle.sqlite.specs.Effect.{Database}
use Rattle.sqlite.specs.State.{State}
use Rattle.tables_schema.specs.Forms.{strict, names_store_table}
use Rattle.tables_schema.specs.Intact.{IsIntact, HasTables, tree_named}
use Rattle.tables_sql.specs.Contents.{Contents, contents_of, map_of, rows_named}
use Rattle.tables_sql.specs.Calls.{IsKeyed, IsStoreDatabase}
use Rattle.tables_sql.proofs.Rising.{AreKept}
use Rattle.tables_sql.proofs.Writes.{SetsRows}
use Rattle.tables_sql.proofs.Description.{Description}

-- its form, the order of its keys, what its rows are, which of the maps they make, and that it is there, is kept and is
-- written so
abbrev pub one_of_nine : {K X : Type 0} (t : Table) {order : K → K → Ordering} → IsTotalOrder order
    → finite.IsAntisymmetric order → (kind : Row → Bool) (entry : Row → K × X)
    → (of : Contents → finite.FinMap order X) (put : Contents → finite.FinMap order X → Contents)
    → names_store_table t.name ≡ true
    → ((db : Database) → HasTables db.schema → of (contents_of db) ≡ map_of order kind entry (rows_named db t.name))
    → ((s : Schema) → HasTables s → IsIntact s (strict t.name t.columns t.primary))
    → ((db : Database) → IsStoreDatabase db → IsKeyed (rows_named db t.name))
    → ((db : Database) → IsStoreDatabase db → AreKept kind (λ r. (entry r).0) (length t.columns) (rows_named db t.name))
    → ((old new : State) → HasTables old.now.schema → (rows : List Row)
    → SetsRows old new (tree_named old.now.schema t.name) rows → (m : finite.FinMap order X)
    → map_of order kind entry rows ≡ m → contents_of new.now ≡ put (contents_of old.now) m)
    → Description K X
one_of_nine t {order} total same kind entry of put named held exists keyed kept written = record {
  name = t.name;
  columns = t.columns;
  key = t.primary;
  order = order;
  total = total;
  same = same;
  kind = kind;
  entry = entry;
  IsIn = HasTables;
  IsOwn = λ db. Unit {0};
  within = λ db of_store mine. of_store.has;
  of = of;
  put = put;
  held = held;
  named = named;
  exists = exists;
  keyed = λ db of_store mine. keyed db of_store;
  kept = λ db of_store mine. kept db of_store;
  written = λ old new rows has here sets m is. written old new has rows sets m is;
  still = λ old new rows exists sets keyed readable mine. tt;
}
