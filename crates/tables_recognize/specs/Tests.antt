-- What each test of the tables requires of a connection, and what it keeps of it.
use Rattle.std.specs.Prelude.{◌≡◌, ◌↔◌, false, Bool, Result, IsTrue, IfOk, IfErr, OnOk}
use Rattle.sqlite_schema.specs.declared.schema.Schema.{Schema}
use Rattle.sqlite_trees.specs.declared.store.Store.{Ghosts}
use Rattle.sqlite.specs.Effect.{Database, IsDatabase}
use Rattle.sqlite.specs.State.{HasCleanDisk, IsUnchanged, Survives}
use Rattle.sqlite.specs.Held.{Held, state}
use Rattle.tables_schema.specs.declared.recognition.Recognised.{Recognised}
use Rattle.tables_sql.specs.Calls.{KeepsShown}
use Rattle.tables_sql.specs.Failures.{FailsToTest}
use Rattle.tables_sql.specs.declared.failure.Failed.{Failed}
use Rattle.tables_recognize.specs.Opened.{IsFound, FailsToOpen}

module _ {S : Type 0} (g : Ghosts S) where
  -- ---- before a call

  -- no transaction is under way, and unless a fault has shut the connection it shows what the last commit left
  pub record IsSettled (old : Held S) : Type 0 where
    pub idle : old.in_transaction ≡ false
    pub settled :
        HasCleanDisk (state g old) → IsTrue (state g old).is_open → (state g old).now ≡ (state g old).committed

  -- Tables may be tested: the connection is settled, and unless a fault has shut it each row obeys its schema, which
  -- has the tables.
  pub record MayTest (old : Held S) (has_tables : Schema → Type 0) : Type 0 where
    pub frame : IsSettled old
    pub sound : HasCleanDisk (state g old) → IsTrue (state g old).is_open → IsDatabase (state g old).now
    pub exists : HasCleanDisk (state g old) → IsTrue (state g old).is_open → has_tables (state g old).now.schema

  -- ---- after it

  -- A test ends outside a transaction, whether it succeeds or fails. The connection shows what it showed, unless a
  -- fault has shut it. A crash leaves what it could leave before.
  pub record LeavesShown (old new : Held S) : Type 0 where
    pub idle : new.in_transaction ≡ false
    pub same : HasCleanDisk (state g new) → KeepsShown (state g old) (state g new)
    pub survives : Survives (state g old) (state g new) (λ _. ⊥)

  -- a call that only looks: it ends as a test does, and where it succeeds nothing has changed
  pub record OnlyLooks {T : Type 0} (old new : Held S) (result : Result T Failed) : Type 0 where
    pub frame : LeavesShown old new
    pub unchanged : HasCleanDisk (state g new) → OnOk result (IsUnchanged (state g old) (state g new))

  -- A test of the rows of tables fails if a rowid is shared or is no integer, and else says whether each text is UTF-8.
  -- Nothing changes.
  pub record TestsRows (old new : Held S) (result : Result Bool Failed) (own_rowids readable : Database → Type 0)
      : Type 0 where
    pub frame : LeavesShown old new
    pub reported : HasCleanDisk (state g new)
        → IfOk result (λ all. IsUnchanged (state g old) (state g new)
        × own_rowids (state g old).now
        × (IsTrue all ↔ readable (state g old).now))
    pub cause : HasCleanDisk (state g new)
        → IfErr result (FailsToTest (state g old) (state g new) (¬ own_rowids (state g old).now))

  -- What the database has of the store's tables is found, or why it can't be read. Nothing changes.
  pub record FindsTables (old new : Held S) (result : Result Recognised Failed) : Type 0 where
    pub frame : LeavesShown old new
    pub unchanged : HasCleanDisk (state g new) → OnOk result (IsUnchanged (state g old) (state g new))
    pub found : HasCleanDisk (state g new) → IfOk result (λ r. IsFound r (state g new))
    pub cause : HasCleanDisk (state g new) → IfErr result (FailsToOpen (state g old) (state g new))
