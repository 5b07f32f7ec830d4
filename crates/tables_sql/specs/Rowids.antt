-- The rowids of a table, how far a transaction numbers on from them, and when none is left.
use Rattle.std.specs.Prelude.{◌≡◌, ◌≤◌, ℕ, ◌+◌, ◌-◌, ◌^◌, pos, negsuc, ◌≤ℤ◌, List, IsTrue}
use Rattle.std.specs.List.{AllByRecursion}
use Rattle.sqlite_value.specs.Order.{Row}
use Rattle.sqlite_trees.specs.Tree.{rowid, IsTable}
use Rattle.sqlite_trees.specs.View.{is_int}
use Rattle.sqlite_rules.specs.Lists.{Has}
use Rattle.sqlite_rules.specs.Edit.{id_in}
use Rattle.sqlite_schema.specs.declared.schema.Schema.{Schema}
use Rattle.sqlite_schema.specs.declared.schema.Table.{Table}
use Rattle.sqlite.specs.Effect.{Database}
use Rattle.tables_schema.specs.Intact.{tree_named}
use Rattle.tables_sql.specs.Contents.{rows_named}

-- the rowid is an integer, and none below those of 64 bits
pub record IsNumbered (row : Row) : Type 0 where
  pub int : IsTrue (is_int (rowid row))
  pub above : negsuc (2 ^ 63 - 1) ≤ℤ id_in (rowid row)

-- The rows rise by their rowids, which are such integers. The tables of each file of SQLite are so, but no clause of
-- `sqlite` says it.
pub record AreNumbered (rows : List Row) : Type 0 where
  pub rise : IsTable rows
  pub each : AllByRecursion IsNumbered rows

-- no rowid of the rows is above this number
abbrev pub AreUpTo : ℕ → List Row → Type 0
AreUpTo most = AllByRecursion (λ row. id_in (rowid row) ≤ℤ pos most)

-- Rows whose rowids are up to a number become rows whose rowids are at most n above it, and they stay numbered. An
-- empty table has no rowid above 0.
pub record NumberOn (n : ℕ) (old new : List Row) : Type 0 where
  pub numbered : AreNumbered old → AreNumbered new
  pub up_to : AreNumbered old → (most : ℕ) → AreUpTo most old → AreUpTo (most + n) new

-- each table of a schema numbers on so, as it does where at most n rows are put into it
abbrev pub NumbersOn : ℕ → Database → Database → Type 0
NumbersOn n old new = AllByRecursion (λ t. NumberOn n (old.trees t.tree) (new.trees t.tree)) old.schema.tables

-- the schema has a table of this name
abbrev pub IsShown : Schema → Table → Type 0
IsShown s table = (own : Table) × Has s.tables own × (own.tree ≡ tree_named s table.name)

-- The table has no rowids for n more rows: it is there, and if its rows are numbered, the rowid that is n above the
-- greatest is beyond 64 bits.
abbrev pub IsFullFor : ℕ → Database → Table → Type 0
IsFullFor n db table =
    IsShown db.schema table → AreNumbered (rows_named db table.name) → (most : ℕ)
    → AreUpTo most (rows_named db table.name) → 2 ^ 63 ≤ most + n
