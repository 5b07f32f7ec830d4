-- What each write requires of the tables, and what it promises of them, by the change that it makes of a world. Also
-- what a read of the disk promises.
use Rattle.std.specs.Prelude.{◌≡◌, false, Option, Result, is_some, IsTrue, IfOk, OnOk, OnErr}
use Rattle.std.specs.Borrow.{MutBor}
use Rattle.sqlite_trees.specs.declared.store.Store.{Ghosts}
use Rattle.sqlite.specs.Effect.{Database}
use Rattle.sqlite.specs.State.{HasCleanDisk, Survives}
use Rattle.sqlite.specs.Held.{Held, state}
use Rattle.tables_sql.specs.Contents.{Contents, contents_of}
use Rattle.tables_sql.specs.declared.failure.Failed.{Failed}
use Rattle.tables_rows.specs.Frames.{FailsInReads, IsInside, MayRead}
use Rattle.tables_sql.specs.Calls.{IsDurable, IsReady, IsWhole, KeepsShown, LeavesRows}
use Rattle.model.specs.World.{World}
use Rattle.model.specs.Sound.{IsSound}
use Rattle.tables_rows.specs.Reasons.{Rows, HasReason}
use Rattle.tables_writes.specs.TablesValue.{TablesValue, HasWorld, IsWritten, LeavesWorld}
use Rattle.tables_writes.specs.Others.{KeepsOthers}

module _ {S : Type 0} (g : Ghosts S) where
  -- ---- rows, inside a transaction

  -- a transaction is under way over the store's tables, no fault has shut the connection, and this is so of the
  -- contents
  pub record IsOpenInside (old : MutBor (Held S)) (holds : Contents → Type 0) : Type 0 where
    pub under_way : IsInside g old
    pub is_open : HasCleanDisk (state g old.now) → IsTrue (state g old.now).is_open
    pub fits : HasCleanDisk (state g old.now) → holds (contents_of (state g old.now).now)

  -- ---- rows, over a connection

  -- no transaction is under way, and unless a fault has shut the connection its tables are the store's, and committed,
  -- and this is so of its database
  pub record MayReadWith (old : Held S) (has : Database → Type 0) : Type 0 where
    pub frame : MayRead g old
    pub tables : HasCleanDisk (state g old) → IsTrue (state g old).is_open → has (state g old).now

  -- no transaction is under way, and unless a fault has shut the connection all of the store's tables are there and
  -- committed, and this is so of their contents
  pub record MayCommit (old : Held S) (holds : Contents → Type 0) : Type 0 where
    pub idle : old.in_transaction ≡ false
    pub ready : HasCleanDisk (state g old) → IsTrue (state g old).is_open → IsReady (state g old)
    pub whole : HasCleanDisk (state g old) → IsTrue (state g old).is_open → IsWhole (state g old).now
    pub fits : HasCleanDisk (state g old) → IsTrue (state g old).is_open → holds (contents_of (state g old).now)

  -- The change is committed in one transaction, or nothing is. It ends outside a transaction.
  pub record CommitsRows {T E : Type 0} (old new : Held S) (result : Result T E)
      (change : Contents → Contents) : Type 0 where
    pub idle : new.in_transaction ≡ false
    pub done : HasCleanDisk (state g new) → OnOk result (IsWritten (state g old) (state g new) change)
    pub others : HasCleanDisk (state g new) → OnOk result (KeepsOthers (state g old).now (state g new).now)
    pub failed : HasCleanDisk (state g new) → OnErr result (KeepsShown (state g old) (state g new))
    pub durable : OnOk result (IsTrue (state g new).is_open → IsDurable (state g new))
    pub was_open : HasCleanDisk (state g new)
        → OnOk result (IsTrue (state g old).is_open × IsTrue (state g new).is_open)
    pub survives : Survives (state g old) (state g new)
        (λ db. IsTrue (state g old).is_open × LeavesRows (state g old).now db (change (contents_of (state g old).now)))

  -- ---- a write, over tables

  -- the change leaves each world of the tables sound
  abbrev pub StaysSound : TablesValue S → (World → World) → Type 0
  StaysSound old change = (w : World) → HasWorld g old w → IsSound old.dir (change w)

  -- The change is made in one transaction and in memory, or not at all.
  pub record CommitsChange {T E : Type 0} (old new : TablesValue S) (result : Result T E)
      (change : World → World) : Type 0 where
    -- the store directory stays
    pub dir : new.dir ≡ old.dir
    -- each world that the tables had is changed
    pub done : OnOk result ((w : World) → HasWorld g old w → HasWorld g new (change w))
    -- tables of other programs are as they were
    pub others : HasCleanDisk (state g new.connection)
        → OnOk result (KeepsOthers (state g old.connection).now (state g new.connection).now)
    -- a write that fails changes nothing
    pub failed : OnErr result ((w : World) → HasWorld g old w → HasWorld g new w)
    -- and the connection shows what it showed, tables of other programs included
    pub shown : HasCleanDisk (state g new.connection)
        → OnErr result (KeepsShown (state g old.connection) (state g new.connection))
    -- after one that is done, a crash leaves nothing else while the connection is open
    pub durable : OnOk result (IsTrue (state g new.connection).is_open → IsDurable (state g new.connection))
    -- once a fault has shut the connection, no write is done
    pub was_open : HasCleanDisk (state g new.connection)
        → OnOk result (IsTrue (state g old.connection).is_open × IsTrue (state g new.connection).is_open)
    -- a crash leaves what it could leave before, or sound rows of the changed world
    pub survives : (w : World) → HasWorld g old w → Survives (state g old.connection) (state g new.connection)
        (λ db. LeavesWorld old.dir (state g old.connection).now db (change w))

  -- why it isn't made, by the rows that it puts
  abbrev pub FailsToChange : {T : Type 0} → TablesValue S → TablesValue S → Result T Failed → Rows → Type 0
  FailsToChange old new result rows = HasReason g old.connection new.connection result rows

  -- a write makes this change, or fails for a reason, by the rows that it puts
  pub record ChangesTables {T : Type 0} (old new : TablesValue S) (result : Result T Failed) (change : World → World)
      (rows : Rows) : Type 0 where
    pub frame : CommitsChange old new result change
    pub cause : FailsToChange old new result rows

  -- ---- a read over tables

  -- why something isn't read of the disk
  abbrev pub FailsToAsk : {T : Type 0} → TablesValue S → TablesValue S → Result T Failed → Type 0
  FailsToAsk old new result = FailsInReads g old.connection new.connection result

  -- What is at a path is read of the disk, if anything is, and the tables stay as they are, whether the read succeeds
  -- or fails. An answer over a clean disk is this of each world of the tables.
  pub record ReadsTables {T : Type 0} (old new : TablesValue S) (result : Result (Option T) Failed)
      (shows : World → Option T → Type 0) : Type 0 where
    -- the store directory stays
    pub dir : new.dir ≡ old.dir
    -- what the answer is of each world
    pub found : HasCleanDisk (state g new.connection) → IfOk result (λ it. (w : World) → HasWorld g old w → shows w it)
    -- each world that the tables had, they still have
    pub same : (w : World) → HasWorld g old w → HasWorld g new w
    -- once a fault has shut the connection, nothing is found
    pub was_open : HasCleanDisk (state g new.connection)
        → IfOk result (λ it. IsTrue (is_some it)
        → IsTrue (state g old.connection).is_open × IsTrue (state g new.connection).is_open)
    -- the connection shows what it showed
    pub shown : HasCleanDisk (state g new.connection)
        → KeepsShown (state g old.connection) (state g new.connection)
    -- an error has a cause
    pub cause : FailsToAsk old new result
    -- a crash leaves what it could leave before
    pub survives : Survives (state g old.connection) (state g new.connection) (λ _. ⊥)
