-- A call of a store: the reply, and the store afterwards.
use Rattle.std.specs.Prelude.{◌≡◌}
use Rattle.sqlite_trees.specs.declared.store.Store.{Ghosts}
use Rattle.sqlite.specs.State.{HasCleanDisk, Survives}
use Rattle.sqlite.specs.Held.{state}
use Rattle.policy.specs.Caller.{Caller}
use Rattle.model.specs.World.{World}
use Rattle.model.specs.Request.{Request}
use Rattle.model.specs.Reply.{Reply}
use Rattle.tables_writes.specs.TablesValue.{HasWorld}
use Rattle.store_promises.specs.Causes.{HasCause}
use Rattle.store_promises.specs.Disk.{StepOver}
use Rattle.store_promises.specs.Durability.{LeavesOthers, StaysDurable}
use Rattle.store_promises.specs.Crashes.{LeavesDone}
use Rattle.model.specs.Reply.{IsDone}
use Rattle.store.specs.View.{StoreView, IsStill}

module _ {S : Type 0} (g : Ghosts S) where
  -- a caller's request had this reply
  pub record Calls (c : Caller) (q : Request) (reply : Reply) (old new : StoreView S) : Type 0 where
    pub settings : new.settings ≡ old.settings
    -- from each world that the tables described before, a step to one that they describe now; an answer from the disk
    -- is right if the disk is clean
    pub step : (w : World) → HasWorld g old.tables w
        → (next : World) × StepOver (HasCleanDisk (state g new.tables.connection)) old.settings w c q reply next
        × HasWorld g new.tables next
    -- a failure has its cause
    pub cause : (w : World) → HasWorld g old.tables w → HasCause g q reply old.tables new.tables
    -- a denial or a refusal leaves the store as it was
    pub still : IsStill reply → new ≡ old
    -- whatever is replied, what other programs have in the database is as it was
    pub others : LeavesOthers g old.tables new.tables
    -- what is done outlives a crash
    pub stays_durable : IsDone reply → StaysDurable g old.tables new.tables
    -- at any exit a crash leaves what it could leave before, or the tables of the done case, if one exists
    pub survives : (w : World) → HasWorld g old.tables w
        → Survives (state g old.tables.connection) (state g new.tables.connection)
        (λ db. LeavesDone old.tables.dir (state g old.tables.connection).now db old.settings w c q)
