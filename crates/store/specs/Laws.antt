-- Laws of steps and runs over a disk.
use Rattle.std.specs.Prelude.{Bool, List, IsTrue}
use Rattle.std.specs.List.{list_any}
use Rattle.sqlite_trees.specs.declared.store.Store.{Ghosts}
use Rattle.sqlite.specs.State.{HasCleanDisk}
use Rattle.sqlite.specs.Held.{Held, state}
use Rattle.policy.specs.Settings.{Settings}
use Rattle.policy.specs.Caller.{Caller}
use Rattle.model.specs.Disk.{reads_disk}
use Rattle.model.specs.World.{World}
use Rattle.model.specs.Request.{Request}
use Rattle.model.specs.Reply.{Reply}
use Rattle.model.specs.Step.{Step, Run}
use Rattle.store_promises.specs.Disk.{StepOver, RunOver}

-- whether one of some calls is answered from the disk
abbrev pub read_disk : List (Caller × Request) → Bool
read_disk calls = list_any (λ (call : Caller × Request). reads_disk call.1) calls

module _ {S : Type 0} (g : Ghosts S) where
  -- a step over a disk is a step, if the disk is clean or the answer isn't from it
  abbrev pub AreSteps : Type 0
  AreSteps = (h : Held S) (s : Settings) (w : World) (c : Caller) (q : Request) (reply : Reply) (next : World)
      → (IsTrue (reads_disk q) → HasCleanDisk (state g h)) → StepOver (HasCleanDisk (state g h)) s w c q reply next
      → Step s w c q reply next

  -- a run over a disk is a run, if the disk is clean or no answer is from it
  abbrev pub AreRuns : Type 0
  AreRuns = (h : Held S) (s : Settings) (w : World) (calls : List (Caller × Request)) (replies : List Reply)
      (next : World)
      → (IsTrue (read_disk calls) → HasCleanDisk (state g h))
      → RunOver (HasCleanDisk (state g h)) s w calls replies next → Run s w calls replies next

  -- each run over the disk is a run, which is true if the disk is always clean
  abbrev pub AreAllRuns : Type 0
  AreAllRuns =
      (h : Held S) (s : Settings) (w : World) (calls : List (Caller × Request)) (replies : List Reply) (next : World)
      → RunOver (HasCleanDisk (state g h)) s w calls replies next → Run s w calls replies next
