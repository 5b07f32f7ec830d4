-- What each call on the tables requires of a connection, and what it keeps of it, by whichever table it reads or
-- writes.
use Rattle.std.specs.Prelude.{◌≡◌, ℕ, false, Option, None, Result, IsSome, IsTrue, IfOk, IfErr, OnOk}
use Rattle.std.specs.Borrow.{MutBor}
use Rattle.sqlite_value.specs.Order.{Row}
use Rattle.sqlite_schema.specs.declared.schema.Table.{Table}
use Rattle.sqlite_trees.specs.declared.store.Store.{Ghosts}
use Rattle.sqlite.specs.Effect.{Database}
use Rattle.sqlite.specs.State.{HasCleanDisk, IsUnchanged, Survives}
use Rattle.sqlite.specs.Held.{Held, state}
use Rattle.tables_schema.specs.Forms.{piece}
use Rattle.tables_sql.specs.Calls.{IsReady, IsUnderWay, KeepsShown, Changes, HasFurther}
use Rattle.tables_sql.specs.Contents.{Contents, contents_of}
pub use Rattle.tables_sql.specs.Statements.{IsInside, StaysInside}
use Rattle.tables_sql.specs.Failures.{FailsFor, FailsToInsert, FailsToRead}
use Rattle.tables_sql.specs.Rowids.{NumbersOn}
use Rattle.tables_rows.specs.Reasons.{Rows, HasReason}
use Rattle.tables_sql.specs.declared.failure.Failed.{Failed}

module _ {S : Type 0} (g : Ghosts S) where
  -- ---- a read outside a transaction

  -- no transaction is under way, and unless a fault has shut the connection its tables are the store's, and committed
  pub record MayRead (old : Held S) : Type 0 where
    pub idle : old.in_transaction ≡ false
    pub ready : HasCleanDisk (state g old) → IsTrue (state g old).is_open → IsReady (state g old)

  -- A read ends outside a transaction, whether it succeeds or fails. The connection shows what it showed, unless a
  -- fault has shut it, and is as ready as before. A crash leaves what it could leave before.
  pub record LeftAsItWas (old new : Held S) : Type 0 where
    pub idle : new.in_transaction ≡ false
    pub same : HasCleanDisk (state g new) → KeepsShown (state g old) (state g new)
    pub ready : HasCleanDisk (state g new) → IsTrue (state g new).is_open → IsReady (state g new)
    pub survives : Survives (state g old) (state g new) (λ _. ⊥)

  -- the database meets this condition, unless a fault has shut the connection
  abbrev pub Meets : Held S → (Database → Type 0) → Type 0
  Meets at condition = HasCleanDisk (state g at) → IsTrue (state g at).is_open → condition (state g at).now

  -- a further table is there, unless a fault has shut the connection
  abbrev pub HasTable : Held S → Table → Type 0
  HasTable at table = Meets at (λ db. HasFurther db table)

  -- ---- what a call is about

  -- an answer is this of the contents, which stay as they are
  abbrev pub Reads : {T E : Type 0} (old new : Held S) (result : Result T E) (shows : Contents → T → Type 0) → Type 0
  Reads old new result shows =
      HasCleanDisk (state g new)
      → IfOk result (λ it. IsUnchanged (state g old) (state g new) × shows (contents_of (state g old).now) it)

  -- where it succeeds, the contents are what the change makes of them
  abbrev pub Makes : {T E : Type 0} (old new : MutBor (Held S)) (result : Result T E) (change : Contents → Contents)
      → Type 0
  Makes old new result change =
      HasCleanDisk (state g new.now) → OnOk result (Changes (state g old.now) (state g new.now) change)

  -- an error comes of memory, of a fault of the disk or of a limit on steps
  abbrev pub FailsWithCause : {T : Type 0} (old new : Held S) (result : Result T Failed) → Type 0
  FailsWithCause old new result = HasCleanDisk (state g new) → IfErr result (FailsFor (state g old) (state g new))

  -- and so does one of several reads, one after another
  abbrev pub FailsInReads : {T : Type 0} (old new : Held S) (result : Result T Failed) → Type 0
  FailsInReads old new result = HasCleanDisk (state g new) → IfErr result (FailsToRead (state g old) (state g new))

  -- where it succeeds, there was no such entry
  abbrev pub WasFree : {T E X : Type 0} (old new : MutBor (Held S)) (result : Result T E) (find : Contents → Option X)
      → Type 0
  WasFree old new result find =
      HasCleanDisk (state g new.now) → OnOk result (find (contents_of (state g old.now).now) ≡ None)

  -- where it succeeds, each table numbers on by at most n rows
  abbrev pub Numbers : {T E : Type 0} (n : ℕ) (old new : MutBor (Held S)) (result : Result T E) → Type 0
  Numbers n old new result =
      HasCleanDisk (state g new.now) → OnOk result (NumbersOn n (state g old.now).now (state g new.now).now)

  -- an error of an insert of this row may also come of its size, of the lack of a rowid, or of such an entry
  abbrev pub FailsToPut : {T X : Type 0} (old new : MutBor (Held S)) (result : Result T Failed) (table : Table)
      (row : Row) (find : Contents → Option X) → Type 0
  FailsToPut old new result table row find =
      HasCleanDisk (state g new.now)
      → IfErr result
      (FailsToInsert table row (IsSome (find (contents_of (state g old.now).now))) (state g old.now) (state g new.now))

  -- ---- what each call on one table does

  -- a read outside a transaction finds this of the contents
  pub record Finds {T : Type 0} (old new : Held S) (result : Result T Failed) (shows : Contents → T → Type 0)
      : Type 0 where
    pub frame : LeftAsItWas old new
    pub reads : Reads old new result shows
    pub cause : FailsWithCause old new result

  -- and a read inside a transaction, of what that has written so far
  pub record FindsInside {T : Type 0} (old new : MutBor (Held S)) (result : Result T Failed)
      (shows : Contents → T → Type 0) : Type 0 where
    pub frame : StaysInside g old new result
    pub reads : Reads old.now new.now result shows
    pub cause : FailsWithCause old.now new.now result

  -- an insert of this row makes this change, where there was no entry of its key, and numbers on by one row
  pub record Inserts {T X : Type 0} (before after : MutBor (Held S)) (result : Result T Failed) (table : Table)
      (row : Row) (find : Contents → Option X) (change : Contents → Contents) : Type 0 where
    pub frame : StaysInside g before after result
    pub done : Makes before after result change
    pub numbers : Numbers 1 before after result
    pub cause : FailsToPut before after result table row find
    pub new : WasFree before after result find

  -- a delete makes this change, and no table numbers on
  pub record Removes {T : Type 0} (old new : MutBor (Held S)) (result : Result T Failed)
      (change : Contents → Contents) : Type 0 where
    pub frame : StaysInside g old new result
    pub done : Makes old new result change
    pub numbers : Numbers 0 old new result
    pub cause : FailsWithCause old.now new.now result

  -- ---- several reads, one after another

  -- all that they promise, but for what they are about: where they succeed, the connection is as it was
  pub record ReadsOnly {T : Type 0} (old new : Held S) (result : Result T Failed) : Type 0 where
    pub frame : LeftAsItWas old new
    pub unchanged : HasCleanDisk (state g new) → OnOk result (IsUnchanged (state g old) (state g new))
    pub cause : FailsInReads old new result

  -- together they find this of the contents
  pub record FindsInReads {T : Type 0} (old new : Held S) (result : Result T Failed) (shows : Contents → T → Type 0)
      : Type 0 where
    pub frame : LeftAsItWas old new
    pub reads : Reads old new result shows
    pub cause : FailsInReads old new result

  -- ---- a write of several rows

  -- a transaction is under way over the store's tables, and unless a fault has shut the connection its database has
  -- this
  pub record IsInsideWith (old : MutBor (Held S)) (has : Database → Type 0) : Type 0 where
    pub under_way : IsInside g old
    pub tables : HasCleanDisk (state g old.now) → IsTrue (state g old.now).is_open → has (state g old.now).now

  -- a transaction is under way over the store's tables and that of pieces, no fault has shut the connection, and this
  -- is so of the contents
  pub record MayCut (old : MutBor (Held S)) (holds : Contents → Type 0) : Type 0 where
    pub under_way : HasCleanDisk (state g old.now) → IsUnderWay (state g old.now)
    pub is_open : HasCleanDisk (state g old.now) → IsTrue (state g old.now).is_open
    pub exists : HasCleanDisk (state g old.now) → HasFurther (state g old.now).now piece
    pub fits : HasCleanDisk (state g old.now) → holds (contents_of (state g old.now).now)

  -- A write inside a transaction: the change is made there, or it fails for a reason, by the rows that it puts.
  pub record Writes {T : Type 0} (old new : MutBor (Held S)) (result : Result T Failed)
      (change : Contents → Contents) (rows : Rows) : Type 0 where
    pub frame : StaysInside g old new result
    pub done : Makes old new result change
    -- each table numbers on by no more rows than are put
    pub numbers : Numbers rows.count old new result
    pub cause : HasReason g old.now new.now result rows
