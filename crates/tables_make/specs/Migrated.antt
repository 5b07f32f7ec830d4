-- What a migration leaves of a database.
use Rattle.std.specs.Prelude.{◌≡◌, List, [], ◌∷◌, ℕ, true, IsTrue}
use Rattle.sqlite_schema.specs.declared.schema.Table.{Table}
use Rattle.sqlite.specs.Effect.{Database}
use Rattle.sqlite.specs.State.{State}
use Rattle.tables_schema.specs.Forms.{piece, temp_root}
use Rattle.tables_schema.specs.Presence.{HasFirst, HasSecond}
use Rattle.tables_sql.specs.Contents.{Contents, contents_of}
use Rattle.tables_sql.specs.Frozen.{SparesFrozen}
use Rattle.tables_sql.specs.Calls.{HasFurther, IsReady, IsWhole, KeepsForeignRows, Remains, Leaves}
use Rattle.tables_make.specs.NewTables.{all_created}
use Rattle.tables_make.specs.Further.{grown}
use Rattle.tables_world.specs.Rows.{Rows, migrated}
use Rattle.tables_schema.specs.declared.schema.Schema.{Schema}
use Rattle.tables_schema.specs.declared.schema.Schema.TheVariants.{V1, V2, V3}
use Rattle.tables_world.specs.Worlds.{rows_of}

-- the contents of which these are the rows
abbrev pub contents_from : Rows → Contents
contents_from r = record {
  meta = r.meta;
  objects = r.objects;
  refs = r.refs;
  outs = r.outs;
  permanent = r.permanent;
  user_roots = r.user_roots;
  profiles = r.profiles;
  generations = r.generations;
  runtime = r.runtime;
  pieces = r.pieces;
  temp_roots = r.temp_roots;
}

-- what the store's tables hold once they are migrated from a schema to the third
abbrev pub migrated_contents : Schema → List ℕ → Contents → Contents
migrated_contents from dir c = contents_from (migrated from dir (rows_of c))

-- the tables that a schema lacks
abbrev pub missing_tables : Schema → List Table
missing_tables V1 = piece ∷ temp_root ∷ []
missing_tables V2 = temp_root ∷ []
missing_tables V3 = []

-- the tables are those of an earlier schema, and the names of those that it lacks are free
abbrev pub HasEarlier : Schema → Database → Type 0
HasEarlier V1 db = HasFirst db.schema
HasEarlier V2 db = HasSecond db.schema × HasFurther db piece
HasEarlier V3 db = ⊥

-- Inside a transaction, which goes on: these tables were made after all that was there, and the store's were left with
-- these contents. All eleven exist, and other tables have the rows that they had, also where the schema doesn't show
-- them.
pub record Grows (tables : List Table) (contents : Contents) (old new : State) : Type 0 where
  pub was_open : IsTrue old.is_open
  pub is_open : IsTrue new.is_open
  pub schema : new.now.schema ≡ all_created old.now.schema tables
  pub contents_are : contents_of new.now ≡ contents
  pub foreign_rows : KeepsForeignRows old.now new.now
  pub frozen : SparesFrozen old.now new.now
  pub whole : IsWhole new.now
  pub committed : new.committed ≡ old.committed
  pub mode : new.in_transaction ≡ true

-- A transaction was committed that made these tables after all that was there, and left the store's with these
-- contents: all eleven are there and the connection is ready, and other tables have the rows that they had, also where
-- the schema doesn't show them.
pub record IsGrown (tables : List Table) (contents : Contents) (old new : State) : Type 0 where
  pub was_open : IsTrue old.is_open
  pub is_open : IsTrue new.is_open
  pub schema : new.now.schema ≡ all_created old.now.schema tables
  pub contents_are : contents_of new.now ≡ contents
  pub foreign_rows : KeepsForeignRows old.now new.now
  pub frozen : SparesFrozen old.now new.now
  pub whole : IsWhole new.now
  pub ready : IsReady new

-- the tables of a schema were brought to the third, with what the rows of a store directory are then
abbrev pub IsMigrated : Schema → List ℕ → State → State → Type 0
IsMigrated from dir old new = IsGrown (missing_tables from) (migrated_contents from dir (contents_of old.now)) old new

-- what a crash may leave of that, if it leaves any of it
abbrev pub LeavesMigrated : Schema → List ℕ → Database → Remains → Type 0
LeavesMigrated from dir db left =
    Leaves (grown (missing_tables from) db) left (migrated_contents from dir (contents_of db))
