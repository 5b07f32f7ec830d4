-- What a call makes of the tables that a connection shows.
use Rattle.std.specs.Prelude.{◌≡◌, true, false, List, [], map, IsTrue}
use Rattle.std.specs.List.{AllByRecursion, IsDistinct}
use Rattle.std.specs.Ordering.{eq_by_cmp}
use Rattle.sqlite_value.specs.Order.{Row, value_cmp}
use Rattle.sqlite_rules.specs.Lists.{Has}
use Rattle.sqlite_trees.specs.View.{is_int}
use Rattle.sqlite_trees.specs.Tree.{Trees, rowid}
use Rattle.sqlite_trees.specs.Objects.{catalog_tree}
use Rattle.sqlite.specs.Effect.{Database, IsDatabase}
use Rattle.sqlite.specs.State.{State}
use Rattle.sqlite_schema.specs.declared.schema.Table.{Table}
use Rattle.tables_schema.specs.Forms.{piece, temp_root, store_tables, further_tables, names_store_table}
use Rattle.tables_schema.specs.Intact.{HasTables, IsIntact}
use Rattle.tables_sql.specs.Contents.{Contents, contents_of, rows_named}
use Rattle.tables_sql.specs.Frozen.{SparesUnshown, SparesFrozen}
use Rattle.tables_sql.specs.Texts.{AreReadableRows, HasReadableRows}

-- what a disk holds once its connection is dropped, as an opening after a crash finds it
abbrev pub Remains : Type 0
Remains = Trees

-- the database that a disk holds then, by the schema that was shown
abbrev pub after_crash : Database → Remains → Database
after_crash old left = record old { trees = left }

-- each row has a rowid of its own, an integer: the list of rowids has no value twice, so no row is there twice
pub record IsKeyed (rows : List Row) : Type 0 where
  pub ints : (a : Row) → Has rows a → IsTrue (is_int (rowid a))
  pub distinct_rowids : IsDistinct (eq_by_cmp value_cmp) (map rowid rows)

-- all nine tables are in the schema, each row obeys it, rowids are distinct, and each text is UTF-8
pub record IsStoreDatabase (db : Database) : Type 0 where
  pub sound : IsDatabase db
  pub has : HasTables db.schema
  pub keyed : AllByRecursion (λ t. IsKeyed (rows_named db t.name)) store_tables
  pub readable : HasReadableRows db

-- a further table is there too, with the same of its rows
pub record HasFurther (db : Database) (t : Table) : Type 0 where
  pub exists : IsIntact db.schema t
  pub keyed : IsKeyed (rows_named db t.name)
  pub readable : AreReadableRows t (rows_named db t.name)

-- all eleven tables are there, with the same of the rows of each
pub record IsWhole (db : Database) : Type 0 where
  pub of_store : IsStoreDatabase db
  pub pieces : HasFurther db piece
  pub temp_roots : HasFurther db temp_root

-- each further table that was there so still is
unfoldable pub KeepsFurther : Database → Database → Type 0
KeepsFurther old new = AllByRecursion (λ t. HasFurther old t → HasFurther new t) further_tables

-- what the connection shows are the store's tables, as the last commit left them
pub record IsReady (s : State) : Type 0 where
  pub of_store : IsStoreDatabase s.now
  pub settled : s.now ≡ s.committed

-- A transaction is under way over the store's tables, unless a fault has shut the connection.
pub record IsUnderWay (s : State) : Type 0 where
  pub of_store : IsTrue s.is_open → IsStoreDatabase s.now
  pub mode : s.in_transaction ≡ true

-- each table with a name that is none of the store's has the rows that it had
abbrev pub KeepsForeignRows : Database → Database → Type 0
KeepsForeignRows old new =
    AllByRecursion (λ t. names_store_table t.name ≡ false → new.trees t.tree ≡ old.trees t.tree) old.schema.tables

-- what a crash may leave, or a commit: the store's tables hold this, each other table has the rows that it had, and
-- what the schema doesn't show is kept
pub record Leaves (old : Database) (left : Remains) (contents : Contents) : Type 0 where
  pub of_store : contents_of (after_crash old left) ≡ contents
  pub foreign_rows : KeepsForeignRows old (after_crash old left)
  pub frozen : SparesFrozen old (after_crash old left)

-- what a crash may leave of a write of rows: the same, and the list of objects is as it was, so that no table, index,
-- view or trigger was made or dropped
pub record LeavesRows (old : Database) (left : Remains) (contents : Contents) : Type 0 where
  pub rows : Leaves old left contents
  pub listed : left catalog_tree ≡ old.trees catalog_tree

-- Inside a transaction, which goes on: the store's tables hold what the change makes of what they held, each other
-- table has the rows that it had, what the schema doesn't show is as it was, and so are the savepoints.
pub record Changes (old new : State) (change : Contents → Contents) : Type 0 where
  pub was_open : IsTrue old.is_open
  pub is_open : IsTrue new.is_open
  pub schema : new.now.schema ≡ old.now.schema
  pub contents : contents_of new.now ≡ change (contents_of old.now)
  pub foreign_rows : KeepsForeignRows old.now new.now
  pub unshown : SparesUnshown old.now new.now
  pub of_store : IsStoreDatabase new.now
  pub further : KeepsFurther old.now new.now
  pub committed : new.committed ≡ old.committed
  pub mode : new.in_transaction ≡ true
  pub marks : new.marks ≡ old.marks

-- Where the connection is still open it was open, and it shows what it showed, with the same last commit.
pub record KeepsShown (old new : State) : Type 0 where
  pub was_open : IsTrue new.is_open → IsTrue old.is_open
  pub now : IsTrue new.is_open → new.now ≡ old.now
  pub committed : IsTrue new.is_open → new.committed ≡ old.committed

-- The transaction was committed: the tables hold what it saw, and so did the last commit leave them.
pub record IsCommitted (old new : State) : Type 0 where
  pub was_open : IsTrue old.is_open
  pub is_open : IsTrue new.is_open
  pub now : new.now ≡ old.now
  pub ready : IsReady new
  pub mode : new.in_transaction ≡ false
  pub unmarked : new.marks ≡ []

-- What a crash leaves is what the last commit left, and nothing else.
abbrev pub IsDurable : State → Type 0
IsDurable s = (left : Remains) → s.may_leave left → left ≡ s.committed.trees
