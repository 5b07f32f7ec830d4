-- How a database is opened as a store, why it isn't, and what a crash leaves.
use Rattle.std.specs.Prelude.{◌≡◌, ◌≢◌, ◌⊎◌, ◌↔◌, ℕ, false, List, None, IsTrue, IsFalse}
use Rattle.std.specs.List.{AllByRecursion}
use Rattle.std.specs.FinMap as finite
use Rattle.sqlite_trees.specs.declared.store.Store.{Ghosts}
use Rattle.sqlite_schema.specs.declared.schema.Schema.{Schema as Shown}
use Rattle.sqlite_schema.specs.declared.schema.Table.{Table}
use Rattle.sqlite.specs.Effect.{Database}
use Rattle.sqlite.specs.State.{State}
use Rattle.sqlite.specs.Held.{state}
use Rattle.tables_schema.specs.Forms.{store_tables, piece, temp_root}
use Rattle.tables_schema.specs.Intact.{IsKnown, tree_named}
use Rattle.tables_schema.specs.Presence.{HasNone, HasFirst, HasSecond, HasThird}
use Rattle.tables_sql.specs.Contents.{contents_of}
use Rattle.tables_sql.specs.Texts.{AreReadable}
use Rattle.tables_sql.specs.Frozen.{SparesFrozen}
use Rattle.tables_sql.specs.Calls.{Remains, HasFurther, KeepsForeignRows}
use Rattle.tables_make.specs.NewTables.{LeavesMade, FailsToMake, all_created, store_tables_created}
use Rattle.tables_make.specs.Migrated.{missing_tables, migrated_contents, LeavesMigrated}
use Rattle.tables_make.specs.Migrating.{FailsToMigrate}
use Rattle.tables_sql.specs.declared.failure.Failed.{Failed}
use Rattle.tables_recognize.specs.Opened.{FailsToOpen}
use Rattle.model.specs.World.{no_world}
use Rattle.tables_schema.specs.declared.schema.Schema.{Schema}
use Rattle.tables_schema.specs.declared.schema.Schema.TheVariants.{V1, V2, V3}
use Rattle.tables_schema.specs.Schemas.{has_pieces, has_temporary}
use Rattle.tables_world.specs.Worlds.{IsSoundBy, world_in}
use Rattle.tables_outline.specs.Outline.{OutlineValue, outline_of}
use Rattle.tables_writes.specs.TablesValue.{TablesValue, HasWorld}
use Rattle.tables.specs.InTheWay.{is_name_used, has_store_tables, are_others_in_the_way}
use Rattle.tables.specs.declared.unopened.Cause.{Cause}
use Rattle.tables.specs.declared.unopened.Cause.TheVariants.{BadSchema, OtherStoreDir, Failed as failed}

-- a connection without its limit on steps
abbrev pub unlimited : State → State
unlimited s = record s { step_limit = None }

-- each further table of a schema exists, and a further table that the schema doesn't have has no rows
pub record HasFurtherOf (schema : Schema) (db : Database) : Type 0 where
  pub pieces : IsTrue (has_pieces schema) → HasFurther db piece
  pub no_pieces : IsFalse (has_pieces schema) → (contents_of db).pieces ≡ finite.empty
  pub temporary : IsTrue (has_temporary schema) → HasFurther db temp_root
  pub no_temporary : IsFalse (has_temporary schema) → (contents_of db).temp_roots ≡ finite.empty

-- the store's tables are those of a schema, and the names of those that it lacks are free
abbrev pub HasTablesOf : Schema → Shown → Type 0
HasTablesOf V1 s = HasFirst s
HasTablesOf V2 s = HasSecond s
HasTablesOf V3 s = HasThird s

-- the tables are those of this schema alone, their texts can be read, and the further tables are those of the schema
pub record IsFoundBy (schema : Schema) (db : Database) : Type 0 where
  pub tables : HasTablesOf schema db.schema
  pub only : (other : Schema) → HasTablesOf other db.schema → other ≡ schema
  pub some : ¬ HasNone db.schema
  pub readable : AreReadable (contents_of db)
  pub further : HasFurtherOf schema db

-- the tables are those of a schema, their texts can be read, and their rows are those of a database of this store
-- directory
pub record HoldsBy (schema : Schema) (dir : List ℕ) (db : Database) : Type 0 where
  pub tables : HasTablesOf schema db.schema
  pub readable : AreReadable (contents_of db)
  pub sound : IsSoundBy schema dir (contents_of db)

-- a database holds a store of a directory, by one of the three schemas
abbrev pub HoldsStore : List ℕ → Database → Type 0
HoldsStore dir db = (schema : Schema) × HoldsBy schema dir db

-- the rows are sound by a schema, and have this outline
abbrev pub AreRead : Schema → List ℕ → Database → OutlineValue → Type 0
AreRead schema dir db outline =
    IsSoundBy schema dir (contents_of db) × (outline_of (world_in (contents_of db)) ≡ outline)

module _ {S : Type 0} (g : Ghosts S) where
  -- The database held a store of the third schema: nothing changed, the connection is open, and the tables have the
  -- world of its rows.
  pub record OpensExisting (dir : List ℕ) (db : Database) (t : TablesValue S) : Type 0 where
    pub holds : HoldsBy V3 dir db
    pub is_open : IsTrue (state g t.connection).is_open
    pub same : (state g t.connection).now ≡ db
    pub reported : HasWorld g t (world_in (contents_of db))

  -- None of the store's tables existed: they were made next to the tables of other programs, and have the empty world.
  pub record OpensNew (db : Database) (t : TablesValue S) : Type 0 where
    pub none : HasNone db.schema
    pub is_open : IsTrue (state g t.connection).is_open
    pub schema : (state g t.connection).now.schema ≡ store_tables_created db.schema
    pub foreign_rows : KeepsForeignRows db (state g t.connection).now
    pub frozen : SparesFrozen db (state g t.connection).now
    pub reported : HasWorld g t no_world

  -- The database held a store of an earlier schema: its tables were migrated to the third, next to the tables of other
  -- programs, and the tables have the world of the rows before.
  pub record OpensMigrated (from : Schema) (dir : List ℕ) (db : Database) (t : TablesValue S) : Type 0 where
    pub holds : HoldsBy from dir db
    pub is_open : IsTrue (state g t.connection).is_open
    pub schema : (state g t.connection).now.schema ≡ all_created db.schema (missing_tables from)
    pub contents_are : contents_of (state g t.connection).now ≡ migrated_contents from dir (contents_of db)
    pub foreign_rows : KeepsForeignRows db (state g t.connection).now
    pub frozen : SparesFrozen db (state g t.connection).now
    pub reported : HasWorld g t (world_in (contents_of db))

  -- the store is opened: with new tables, as a store of the third schema, or migrated from the first or the second
  abbrev pub OpensStore : List ℕ → Database → TablesValue S → Type 0
  OpensStore dir db t =
      OpensNew db t ⊎ (OpensExisting dir db t ⊎ (OpensMigrated V1 dir db t ⊎ OpensMigrated V2 dir db t))

-- the database had none of the store's tables, and this is what a crash may leave while they are made, apart from the
-- state before
abbrev pub LeavesNew : List ℕ → Database → Remains → Type 0
LeavesNew dir db left = HasNone db.schema × LeavesMade dir db left

-- the database held a store of an earlier schema, and this is what a crash may leave while it is migrated to the third,
-- apart from the state before
abbrev pub LeavesMigration : Schema → List ℕ → Database → Remains → Type 0
LeavesMigration from dir db left = HoldsBy from dir db × LeavesMigrated from dir db left

-- What a crash may leave while a database is opened, apart from what it could leave before: the new tables, or those
-- that were migrated to the third schema.
abbrev pub LeavesOpening : List ℕ → Database → Remains → Type 0
LeavesOpening dir db left = LeavesNew dir db left ⊎ (LeavesMigration V1 dir db left ⊎ LeavesMigration V2 dir db left)

-- one of the store's tables exists in exactly its form, whatever other tables exist
abbrev pub HasItsForm : Shown → Table → Type 0
HasItsForm s t = (at : ℕ) × IsKnown s t.name at (record t { tree = tree_named s t.name })

-- the store's tables are those of a schema, each in exactly its form, and no name of a table that the schema lacks is
-- used
abbrev pub HasFormsOf : Schema → Shown → Type 0
HasFormsOf V1 s =
    AllByRecursion (HasItsForm s) store_tables × (is_name_used s piece ≡ false) × (is_name_used s temp_root ≡ false)
HasFormsOf V2 s = AllByRecursion (HasItsForm s) store_tables × HasItsForm s piece × (is_name_used s temp_root ≡ false)
HasFormsOf V3 s = AllByRecursion (HasItsForm s) store_tables × HasItsForm s piece × HasItsForm s temp_root

-- the store's tables are those of a schema, their texts can be read, and their rows are those of a database of this
-- store directory, whatever other tables exist
pub record IsPresentBy (schema : Schema) (dir : List ℕ) (db : Database) : Type 0 where
  pub forms : HasFormsOf schema db.schema
  pub readable : AreReadable (contents_of db)
  pub sound : IsSoundBy schema dir (contents_of db)

-- a store of a directory is present, by one of the three schemas
abbrev pub IsPresent : List ℕ → Database → Type 0
IsPresent dir db = (schema : Schema) × IsPresentBy schema dir db

-- The failures for which a store isn't opened: the schema or the rows can't be read, or rowids are shared or aren't
-- integers (FailsToOpen); new tables aren't made; or the tables of an earlier schema aren't migrated to the third.
abbrev pub FailsToAdopt : List ℕ → State → State → Failed → Type 0
FailsToAdopt dir old new f =
    FailsToOpen old new f
    ⊎ ((HasNone old.now.schema × FailsToMake dir old new f)
    ⊎ ((HasFirst old.now.schema × FailsToMigrate V1 old new f)
    ⊎ (HasSecond old.now.schema × FailsToMigrate V2 old new f)))

-- Why a database isn't opened. `BadSchema`: some of the store's tables exist, but they are sound by no schema and for
-- no directory; or tables of other programs are in their way. `OtherStoreDir`: the database is the store of another
-- directory.
abbrev pub IsRefusal : List ℕ → Database → Cause → Type 0
IsRefusal dir db BadSchema =
    (IsTrue (has_store_tables db.schema) × ((d : List ℕ) → ¬ IsPresent d db)) ⊎ IsTrue (are_others_in_the_way db.schema)
IsRefusal dir db OtherStoreDir = (d : List ℕ) × HoldsStore d db × (d ≢ dir)
IsRefusal dir db (failed f) = ⊥

-- the cause of a database that isn't opened: what the database holds, or a failure between the two states
abbrev pub IsCause : List ℕ → State → State → Cause → Type 0
IsCause dir old new (failed f) = FailsToAdopt dir old new f
IsCause dir old new refusal = IsRefusal dir old.now refusal

-- the database isn't one in which new tables are made (HasNone), and it holds the store of no directory
abbrev pub IsNoStore : Database → Type 0
IsNoStore db = ¬ HasNone db.schema × ((d : List ℕ) → ¬ HoldsStore d db)

-- A database is refused as no store, by the definitions, if and only if it is neither opened as the store of some
-- directory nor given new tables.
abbrev pub RefusesTheRest : Type 0
RefusesTheRest = (dir : List ℕ) (db : Database) → IsRefusal dir db BadSchema ↔ IsNoStore db
