-- What a call that is done leaves of the disk.
use Rattle.std.specs.Prelude.{◌≡◌, ◌⊎◌, IsTrue}
use Rattle.sqlite_trees.specs.declared.store.Store.{Ghosts}
use Rattle.sqlite.specs.State.{HasCleanDisk}
use Rattle.sqlite.specs.Held.{state}
use Rattle.tables_sql.specs.Calls.{IsDurable}
use Rattle.model.specs.World.{World}
use Rattle.tables_writes.specs.TablesValue.{TablesValue, HasWorld}
use Rattle.tables_writes.specs.Others.{KeepsOthers}

module _ {S : Type 0} (g : Ghosts S) where
  -- nothing was done: the tables describe each world that they described before; and if the connection is open, its
  -- database is as it was, and a crash leaves no more of it than before
  pub record IsUntouched (old new : TablesValue S) : Type 0 where
    pub reported : (w : World) → HasWorld g old w → HasWorld g new w
    pub same : IsTrue (state g new.connection).is_open → (state g new.connection).now ≡ (state g old.connection).now
    pub durable : IsTrue (state g new.connection).is_open → IsDurable (state g old.connection)
        → IsDurable (state g new.connection)

  -- Over a clean disk the connection is open, and a crash leaves nothing but what was committed; or nothing was done.
  abbrev pub StaysDurable : TablesValue S → TablesValue S → Type 0
  StaysDurable old new =
      HasCleanDisk (state g new.connection)
      → (IsTrue (state g new.connection).is_open × IsDurable (state g new.connection)) ⊎ IsUntouched old new

  -- over a clean disk, if the connection is open, it was open before, and what other programs have in the database is
  -- as it was
  abbrev pub LeavesOthers : TablesValue S → TablesValue S → Type 0
  LeavesOthers old new =
      HasCleanDisk (state g new.connection) → IsTrue (state g new.connection).is_open
      → IsTrue (state g old.connection).is_open × KeepsOthers (state g old.connection).now (state g new.connection).now
