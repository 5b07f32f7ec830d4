-- Why a call failed.
use Rattle.std.specs.Prelude.{◌⊎◌, IsSome, IsTrue}
use Rattle.sqlite_trees.specs.declared.store.Store.{Ghosts}
use Rattle.sqlite.specs.State.{State, HasCleanDisk}
use Rattle.sqlite.specs.Held.{state}
use Rattle.tables_sql.specs.Failures.{HasDiskCause}
use Rattle.model.specs.Disk.{touches_disk, puts_rows}
use Rattle.model.specs.Request.{Request}
use Rattle.model.specs.Reply.{Failed, Reply, done, denied, refused, failed, memory, size, disk}
use Rattle.tables_writes.specs.Reasons.{Rows, HasLargeRow, RunsOutOfRowids}
use Rattle.tables_writes.specs.TablesValue.{TablesValue}
use Rattle.store_promises.specs.RowsPut.{rows_put}

-- Why a read from the disk failed, or the write of a change that puts these rows. `size`: the request puts rows, the
-- connection is open, and one of the rows is larger than SQLite takes. `disk`: the disk failed in this call or before,
-- the connection has a limit on steps, or a table of one of the rows has no rowids for all of them.
abbrev pub IsDiskReason : Request → Rows → Failed → State → State → Type 0
IsDiskReason q rows memory old new = Unit {0}
IsDiskReason q rows size old new = IsTrue (puts_rows q) × IsTrue old.is_open × HasLargeRow rows old.now
IsDiskReason q rows disk old new =
    HasDiskCause old new ⊎ (IsSome old.step_limit ⊎ (IsTrue (puts_rows q) × RunsOutOfRowids rows old.now))

module _ {S : Type 0} (g : Ghosts S) where
  -- a failed call ran out of memory; or it touched the disk, and if the disk is clean, it has a reason to fail
  abbrev pub HasCause : Request → Reply → TablesValue S → TablesValue S → Type 0
  HasCause q (failed memory) old new = Unit {0}
  HasCause q (failed f) old new =
      IsTrue (touches_disk q)
      × (HasCleanDisk (state g new.connection)
      → IsDiskReason q (rows_put old.dir old.outline q) f (state g old.connection) (state g new.connection))
  HasCause q (done a) old new = Unit {0}
  HasCause q (denied rule root) old new = Unit {0}
  HasCause q (refused r) old new = Unit {0}
