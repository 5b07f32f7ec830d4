-- What each call that makes tables, inside a transaction or in one of its own, requires of the connection, and what it
-- promises.
use Rattle.std.specs.Prelude.{◌≡◌, ℕ, false, List, Result, IsTrue, IfErr, OnOk, OnErr}
use Rattle.std.specs.Borrow.{MutBor}
use Rattle.sqlite_trees.specs.declared.store.Store.{Ghosts}
use Rattle.sqlite.specs.State.{State, HasCleanDisk, KeepsCommit, Survives}
use Rattle.sqlite.specs.Held.{Held, state}
use Rattle.tables_schema.specs.Presence.{HasNone}
use Rattle.tables_schema.specs.declared.schema.Schema.{Schema}
use Rattle.tables_sql.specs.Contents.{Bytes, contents_of}
use Rattle.tables_sql.specs.Calls.{Remains, IsDurable, IsReady, KeepsShown}
use Rattle.tables_sql.specs.declared.failure.Failed.{Failed}
use Rattle.tables_world.specs.Worlds.{IsSoundBy}
use Rattle.tables_make.specs.NewTables.{FailsToMake}
use Rattle.tables_make.specs.Migrated.{HasEarlier, IsMigrated, LeavesMigrated}
use Rattle.tables_make.specs.Migrating.{MigratedRows, FailsToPutBy}
use Rattle.tables_rows.specs.Reasons.{Rows}

module _ {S : Type 0} (g : Ghosts S) where
  -- ---- a step that makes tables

  -- A step stays in its transaction, and whether it succeeds or fails nothing is committed. A crash leaves what it
  -- could leave before.
  pub record KeepsInside (old new : MutBor (Held S)) : Type 0 where
    pub same_reference : new.ghost_name ≡ old.ghost_name
    pub kept : HasCleanDisk (state g new.now) → KeepsCommit (state g old.now) (state g new.now)
    pub survives : Survives (state g old.now) (state g new.now) (λ _. ⊥)

  -- A step inside a transaction: where it succeeds it leaves this, and where it fails this is why.
  pub record StepsInside {T : Type 0} (old new : MutBor (Held S)) (result : Result T Failed)
      (leaves : State → State → Type 0) (fails : State → State → Failed → Type 0) : Type 0 where
    pub frame : KeepsInside old new
    pub done : HasCleanDisk (state g new.now) → OnOk result (leaves (state g old.now) (state g new.now))
    pub cause : HasCleanDisk (state g new.now) → IfErr result (fails (state g old.now) (state g new.now))

  -- ---- all eleven tables

  -- no transaction is under way, and unless a fault has shut the connection none of the store's tables exists
  pub record MayMake (old : Held S) : Type 0 where
    pub idle : old.in_transaction ≡ false
    pub none : HasCleanDisk (state g old) → IsTrue (state g old).is_open → HasNone (state g old).now.schema

  -- The connection shows and has what the last commit left, unless a fault has shut it.
  abbrev pub IsAsCommitted : State → State → Type 0
  IsAsCommitted old new = (new.now ≡ old.committed) × (new.committed ≡ old.committed)

  -- The tables of a store directory are made in one transaction, or none is. It ends outside a transaction, and a
  -- crash leaves what it could leave before, or this.
  pub record CommitsTables {T : Type 0} (old new : Held S) (result : Result T Failed) (dir : Bytes)
      (leaves : State → State → Type 0) (remains : Remains → Type 0) : Type 0 where
    pub idle : new.in_transaction ≡ false
    pub done : HasCleanDisk (state g new) → OnOk result (leaves (state g old) (state g new))
    pub cause : HasCleanDisk (state g new) → IfErr result (FailsToMake dir (state g old) (state g new))
    pub was_open : HasCleanDisk (state g new) → IsTrue (state g new).is_open → IsTrue (state g old).is_open
    pub failed : HasCleanDisk (state g new) → IsTrue (state g new).is_open
        → OnErr result (IsAsCommitted (state g old) (state g new))
    pub durable : IsTrue (state g new).is_open → IsDurable (state g new)
    pub survives : Survives (state g old) (state g new) remains

  -- ---- a migration

  -- no transaction is under way, and unless a fault has shut the connection its tables are those of an earlier schema,
  -- and committed
  pub record MayMigrate (old : Held S) (from : Schema) : Type 0 where
    pub idle : old.in_transaction ≡ false
    pub ready : HasCleanDisk (state g old) → IsTrue (state g old).is_open → IsReady (state g old)
    pub tables : HasCleanDisk (state g old) → IsTrue (state g old).is_open → HasEarlier from (state g old).now

  -- The tables of an earlier schema are brought to the third in one transaction that puts these rows, or stay as they
  -- are. It ends outside a transaction, and a crash leaves what it could leave before, or this.
  pub record CommitsMigration {T : Type 0} (old new : Held S) (result : Result T Failed) (from : Schema) (rows : Rows)
      (leaves : State → State → Type 0) (remains : Remains → Type 0) : Type 0 where
    pub idle : new.in_transaction ≡ false
    pub done : HasCleanDisk (state g new) → OnOk result (leaves (state g old) (state g new))
    -- a migration that fails leaves what the connection shows as it was
    pub failed : HasCleanDisk (state g new) → OnErr result (KeepsShown (state g old) (state g new))
    pub cause : HasCleanDisk (state g new) → IfErr result (FailsToPutBy rows from (state g old) (state g new))
    -- after one that is done, a crash leaves nothing else while the connection is open
    pub durable : OnOk result (IsTrue (state g new).is_open → IsDurable (state g new))
    pub survives : Survives (state g old) (state g new) remains

  -- sound rows of each store directory are migrated
  abbrev pub Migrates : {T : Type 0} → Held S → Held S → Result T Failed → Schema → Type 0
  Migrates old new result from =
      CommitsMigration old new result from (MigratedRows from (contents_of (state g old).now))
      (λ a b. (dir : List ℕ) → IsSoundBy from dir (contents_of a.now) → IsMigrated from dir a b)
      (λ left. (dir : List ℕ) → IsSoundBy from dir (contents_of (state g old).now)
      → LeavesMigrated from dir (state g old).now left)
