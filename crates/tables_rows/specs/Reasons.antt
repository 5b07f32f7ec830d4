-- Why rows aren't put into the store's tables.
use Rattle.std.specs.Prelude.{⊤, ◌≡◌, ◌⊎◌, ◌≤◌, ℕ, ◌+◌, List, [], ◌∷◌, Option, Some, None, Result, IsSome, IsTrue}
use Rattle.std.specs.Prelude.{IfErr}
use Rattle.sqlite_value.specs.Order.{Row}
use Rattle.sqlite_schema.specs.declared.schema.Table.{Table}
use Rattle.sqlite_trees.specs.declared.store.Store.{Ghosts}
use Rattle.sqlite.specs.Effect.{Database}
use Rattle.sqlite.specs.State.{State, HasCleanDisk}
use Rattle.sqlite.specs.Held.{Held, state}
use Rattle.tables_sql.specs.Calls.{KeepsForeignRows}
use Rattle.tables_sql.specs.Failures.{HasDiskCause, IsTooLarge}
use Rattle.tables_sql.specs.Rowids.{IsFullFor}
use Rattle.tables_sql.specs.declared.failure.Failed.{Failed}
use Rattle.tables_sql.specs.declared.failure.Failed.TheVariants.{Memory, Size, Disk}

-- Some rows of the store's tables: how many at most, and which, by their table and their values after the rowid.
pub record Rows : Type 1 where
  pub count : ℕ
  pub has : Table → Row → Type 0

-- one row of one table
abbrev pub IsRow : Table → Row → Rows
IsRow table values = record { count = 1; has = λ t row. (t ≡ table) × (row ≡ values) }

-- no row of any table
abbrev pub NoRow : Rows
NoRow = record { count = 0; has = λ t row. ⊥ }

-- the rows of both
abbrev pub Both : Rows → Rows → Rows
Both a b = record { count = a.count + b.count; has = λ t row. a.has t row ⊎ b.has t row }

-- the rows of each item of a list
abbrev pub RowsOf : {X : Type 0} → (X → Rows) → List X → Rows
RowsOf rows [] = NoRow
RowsOf rows (x ∷ xs) = Both (rows x) (RowsOf rows xs)

-- the rows of an item, if there is one
abbrev pub RowsIfAny : {X : Type 0} → (X → Rows) → Option X → Rows
RowsIfAny rows None = NoRow
RowsIfAny rows (Some x) = rows x

-- the one are among the other, and no more of them
pub record AreAmong (few many : Rows) : Type 0 where
  pub count : few.count ≤ many.count
  pub has : (t : Table) (row : Row) → few.has t row → many.has t row

-- a database that a transaction over the first one may show: the schema and the tables of other programs are as they
-- were
pub record IsWithin (old db : Database) : Type 0 where
  pub schema : db.schema ≡ old.schema
  pub foreign_rows : KeepsForeignRows old db

-- in such a database one of the rows, or its entry in an index, is larger than the store takes
abbrev pub HasLargeRow : Rows → Database → Type 0
HasLargeRow rows old =
    (db : Database) × IsWithin old db × (t : Table) × (values : Row) × rows.has t values × IsTooLarge db t values

-- The table of one of the rows has no rowids for all of them, in the database before the call.
abbrev pub RunsOutOfRowids : Rows → Database → Type 0
RunsOutOfRowids rows old =
    (t : Table) × (values : Row) × rows.has t values × IsFullFor rows.count old t

-- Why a call that puts these rows failed. A size is named for one of them alone, over an open connection. The disk is
-- named for a fault of it in this call, for an earlier one that had shut the connection, for a limit on steps, or where
-- no rowid is left; never since an entry was there already.
abbrev pub IsReason : Rows → State → State → Failed → Type 0
IsReason rows old new Memory = ⊤
IsReason rows old new Size = IsTrue old.is_open × HasLargeRow rows old.now
IsReason rows old new Disk = HasDiskCause old new ⊎ (IsSome old.step_limit ⊎ RunsOutOfRowids rows old.now)

-- a failed result has a reason among some rows
abbrev pub HasReason : {S T : Type 0} → Ghosts S → Held S → Held S → Result T Failed → Rows → Type 0
HasReason g old new result rows = HasCleanDisk (state g new) → IfErr result (IsReason rows (state g old) (state g new))
