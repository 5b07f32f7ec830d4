-- The failure for each error of the database, and what a failure says of its call.
use Rattle.std.specs.Prelude.{⊤, ℕ, ◌≡◌, ◌⊎◌, true, false, List, ◌∷◌, Option, Some, None, IsSome, IsTrue, Err}
use Rattle.std.specs.List.{list_any}
use Rattle.sqlite_value.specs.declared.value.Value.TheVariants.{Int}
use Rattle.sqlite_value.specs.Order.{Row}
use Rattle.sqlite_trees.specs.Tree.{has_rowid}
use Rattle.sqlite.specs.Disk.{MoreFaults}
use Rattle.sqlite_sql.specs.Ops.{fits_i64}
use Rattle.sqlite_schema.specs.declared.schema.Table.{Table}
use Rattle.sqlite_rules.specs.Edit.{next_rowid, IsOversized}
use Rattle.sqlite.specs.Effect.{Database}
use Rattle.sqlite.specs.State.{State, IsUnchanged, IsRolledBack, FailsToQuery, ExecutesInside}
use Rattle.sqlite.specs.declared.error.ErrorCode.TheVariants.{OutOfMemory, TooBig, SystemIoFailure, DiskFull, Closed}
use Rattle.sqlite.specs.declared.error.Error.{Error}
use Rattle.sqlite.specs.declared.error.Error.TheVariants.{SqliteFailure}
use Rattle.tables_schema.specs.Intact.{tree_named}
use Rattle.tables_sql.specs.Contents.{rows_named}
use Rattle.tables_sql.specs.declared.failure.Failed.{Failed}
use Rattle.tables_sql.specs.declared.failure.Failed.TheVariants.{Memory, Size, Disk}

-- out of memory and a row too large keep their names, and all else is a fault of the disk
abbrev pub failure_of : Error → Failed
failure_of (SqliteFailure OutOfMemory) = Memory
failure_of (SqliteFailure TooBig) = Size
failure_of _ = Disk

-- the failure that kept a file from being opened, or none if the file is something else than a database
abbrev pub opening_failure : Error → Option Failed
opening_failure (SqliteFailure OutOfMemory) = Some Memory
opening_failure (SqliteFailure TooBig) = Some Size
opening_failure (SqliteFailure SystemIoFailure) = Some Disk
opening_failure (SqliteFailure DiskFull) = Some Disk
opening_failure (SqliteFailure Closed) = Some Disk
opening_failure _ = None

-- a query of this text answered an error, and this is its failure
abbrev pub IsQueryFailure : List ℕ → Row → State → State → Failed → Type 0
IsQueryFailure text params old new f = (e : Error) × (f ≡ failure_of e) × FailsToQuery text params old new e

-- a write of this text answered an error, and this is its failure
abbrev pub IsWriteFailure : List ℕ → Row → State → State → Failed → Type 0
IsWriteFailure text params old new f = (e : Error) × (f ≡ failure_of e) × ExecutesInside 0 text params old new (Err e)

-- what a delete says of a failure: it writes no row that may be too large, so a size comes of a shut connection alone,
-- if at all
abbrev pub without_size : Failed → Failed
without_size Memory = Memory
without_size Size = Disk
without_size Disk = Disk

-- a delete of this text answered an error, and this is its failure
abbrev pub IsDeletionFailure : List ℕ → Row → State → State → Failed → Type 0
IsDeletionFailure text params old new f = (g : Failed) × (f ≡ without_size g) × IsWriteFailure text params old new g

-- a fault of the disk came in this call, or an earlier one had shut the connection
abbrev pub HasDiskCause : State → State → Type 0
HasDiskCause old new = MoreFaults old.faults new.faults ⊎ (old.is_open ≡ false)

-- Why a call failed. Out of memory, the transaction is undone, or nothing changes. A row too large, where there can be
-- one, undoes it, and so does a fault of the disk. Where there is a reason to refuse the call, the answer is the disk
-- too, and nothing changes.
abbrev pub FailsWith : State → State → (large refused : Type 0) → Failed → Type 0
FailsWith old new large refused Memory = IsRolledBack old new ⊎ IsUnchanged old new
FailsWith old new large refused Size = large × IsRolledBack old new
FailsWith old new large refused Disk = (HasDiskCause old new × IsRolledBack old new) ⊎ (refused × IsUnchanged old new)

-- a call that writes no row, so none is too large, and that nothing refuses but a limit on steps, where one is set
abbrev pub FailsFor : State → State → Failed → Type 0
FailsFor old new = FailsWith old new ⊥ (IsSome old.step_limit)

-- The row that these values make in the table, whose rowid is the one after the last, is larger than the store takes,
-- or its entry in an index is.
unfoldable pub IsTooLarge : Database → Table → Row → Type 0
IsTooLarge db table values =
    IsOversized db.schema (record table { tree = tree_named db.schema table.name })
    (Int (next_rowid (rows_named db table.name)) ∷ values)

-- no rowid is left for one more row: the one after the last is beyond 64 bits, or in use
unfoldable pub HasNoRowidLeft : Database → Table → Type 0
HasNoRowidLeft db table =
    let rows = rows_named db table.name in (fits_i64 (next_rowid rows) ≡ false)
    ⊎ (list_any (has_rowid (next_rowid rows)) rows ≡ true)

-- An insert of this text failed. It is the failure of the write, which names a size of an open connection alone; or,
-- where the write named a size, that of the question whether the connection is open.
abbrev pub IsAdditionFailure : List ℕ → Row → State → State → Failed → Type 0
IsAdditionFailure text params old new f =
    (IsWriteFailure text params old new f × (f ≡ Size → IsTrue old.is_open)) ⊎ FailsWith old new ⊥ ⊥ f

-- An insert of these values into a table: the row may be too large, which is reported of an open connection alone, and
-- the call refused for a limit on steps, for lack of a rowid, or since the entry is there, where that may be.
abbrev pub FailsToInsert : Table → Row → (is_key_used : Type 0) → State → State → Failed → Type 0
FailsToInsert table values is_key_used old new =
    FailsWith old new (IsTooLarge old.now table values × IsTrue old.is_open)
    (IsSome old.step_limit ⊎ (HasNoRowidLeft old.now table ⊎ is_key_used))

-- The store failed at a commit, which no size does, and the transaction is undone.
abbrev pub FailsToCommit : State → State → Failed → Type 0
FailsToCommit old new Memory = IsRolledBack old new
FailsToCommit old new Size = ⊥
FailsToCommit old new Disk = HasDiskCause old new × IsRolledBack old new

-- Why a test of the store's tables failed: out of memory, never for a size, and with the disk named only for a fault of
-- it in this call, for an earlier one that had shut the connection, for a limit on steps, or for what the test found.
abbrev pub FailsToTest : State → State → (found : Type 0) → Failed → Type 0
FailsToTest old new found Memory = ⊤
FailsToTest old new found Size = ⊥
FailsToTest old new found Disk = HasDiskCause old new ⊎ (IsSome old.step_limit ⊎ found)

-- Why reads of the store's tables failed, one after another: as a test that finds nothing.
abbrev pub FailsToRead : State → State → Failed → Type 0
FailsToRead old new = FailsToTest old new ⊥
