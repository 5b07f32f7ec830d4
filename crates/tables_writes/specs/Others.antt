-- What a database has of other programs next to the store's tables.
use Rattle.std.specs.Prelude.{◌≡◌}
use Rattle.sqlite_trees.specs.Objects.{catalog_tree}
use Rattle.sqlite.specs.Effect.{Database}
use Rattle.tables_sql.specs.Frozen.{SparesFrozen}
use Rattle.tables_sql.specs.Calls.{KeepsForeignRows}

-- The schema is as it was, and so is the list of objects: no table, index, view or trigger was made, changed or
-- dropped. Each table with a name that is none of the store's has the rows that it had, and so has one that the schema
-- doesn't show. The user version is as it was.
pub record KeepsOthers (old new : Database) : Type 0 where
  pub schema : new.schema ≡ old.schema
  pub listed : new.trees catalog_tree ≡ old.trees catalog_tree
  pub foreign_rows : KeepsForeignRows old new
  pub frozen : SparesFrozen old new
