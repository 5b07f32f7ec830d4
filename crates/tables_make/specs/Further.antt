-- What the making of further tables leaves, inside a transaction that goes on: they come after all that was there, and
-- hold no row.
use Rattle.std.specs.Prelude.{◌≡◌, true, List, IsTrue}
use Rattle.std.specs.List.{AllByRecursion}
use Rattle.sqlite_schema.specs.declared.schema.Table.{Table}
use Rattle.sqlite.specs.Effect.{Database}
use Rattle.sqlite.specs.State.{State}
use Rattle.tables_sql.specs.Contents.{contents_of}
use Rattle.tables_sql.specs.Frozen.{SparesFrozen}
use Rattle.tables_sql.specs.Rowids.{NumbersOn}
use Rattle.tables_sql.specs.Calls.{IsStoreDatabase, HasFurther, KeepsFurther, KeepsForeignRows}
use Rattle.tables_make.specs.NewTables.{all_created}

-- a database with these tables in addition to what it has
abbrev pub grown : List Table → Database → Database
grown tables db = record db { schema = all_created db.schema tables }

-- Inside a transaction, which goes on: these tables were made after what was there. They hold no row, so the store's
-- tables hold what they held, and none numbers on; each other table keeps its rows, also where the schema doesn't show
-- it, and a further table that existed still does.
pub record MakesFurther (tables : List Table) (old new : State) : Type 0 where
  pub was_open : IsTrue old.is_open
  pub is_open : IsTrue new.is_open
  pub schema : new.now.schema ≡ all_created old.now.schema tables
  pub contents : contents_of new.now ≡ contents_of old.now
  pub foreign_rows : KeepsForeignRows old.now new.now
  pub frozen : SparesFrozen old.now new.now
  pub of_store : IsStoreDatabase new.now
  pub exist : AllByRecursion (HasFurther new.now) tables
  pub numbers : NumbersOn 0 (grown tables old.now) new.now
  pub further : KeepsFurther old.now new.now
  pub committed : new.committed ≡ old.committed
  pub mode : new.in_transaction ≡ true
