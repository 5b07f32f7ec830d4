-- What calls made one after another leave, from one world to one world.
use Rattle.std.specs.Prelude.{List}
use Rattle.sqlite_trees.specs.declared.store.Store.{Ghosts}
use Rattle.sqlite.specs.State.{HasCleanDisk}
use Rattle.sqlite.specs.Held.{state}
use Rattle.paths.specs.Root.{Root}
use Rattle.policy.specs.Caller.{Caller}
use Rattle.policy.specs.Settings.{Settings}
use Rattle.model.specs.World.{World}
use Rattle.model.specs.Request.{Request}
use Rattle.model.specs.Reply.{Reply}
use Rattle.model.specs.Pinning.{KeepsReached, RemainsThroughout}
use Rattle.tables_writes.specs.TablesValue.{TablesValue, HasWorld}
use Rattle.store_promises.specs.Disk.{RunOver}
use Rattle.store_promises.specs.Durability.{LeavesOthers}

module _ {S : Type 0} (g : Ghosts S) where
  -- from a world that the tables described before, calls that had these replies lead to one that they describe now
  pub record RunsFrom (s : Settings) (w : World) (calls : List (Caller × Request)) (replies : List Reply)
      (old new : TablesValue S) : Type 0 where
    pub next : World
    pub described : HasWorld g new next
    -- the calls are steps to it, one after another; answers from the disk are right if the disk is clean
    pub run : RunOver (HasCleanDisk (state g new.connection)) s w calls replies next
    -- a root that exists before each call keeps what it reached at first, with the same objects
    pub pins : (r : Root) → RemainsThroughout s w r calls replies → KeepsReached s r w next
    -- what other programs have in the database is as it was
    pub others : LeavesOthers g old new
