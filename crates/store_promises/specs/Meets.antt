-- A request that no rule forbids, over tables: the reply, and the tables afterwards.
use Rattle.std.specs.Prelude.{◌≡◌, Some, None, Result, Ok, Err, IsTrue}
use Rattle.sqlite_trees.specs.declared.store.Store.{Ghosts}
use Rattle.sqlite.specs.State.{HasCleanDisk, Survives}
use Rattle.sqlite.specs.Held.{state}
use Rattle.tables_sql.specs.Calls.{KeepsShown}
use Rattle.policy.specs.Settings.{Settings}
use Rattle.policy.specs.Caller.{Caller}
use Rattle.model.specs.World.{World}
use Rattle.model.specs.Disk.{reads_disk}
use Rattle.model.specs.Request.{Request}
use Rattle.model.specs.Reply as replied
use Rattle.model.specs.Tests.{refusal}
use Rattle.model.specs.Effects.{effect}
use Rattle.model.specs.Answers.{answer}
use Rattle.tables_writes.specs.TablesValue.{TablesValue, HasWorld}
use Rattle.store_types.specs.declared.replies.Answer.{Answer}
use Rattle.store_types.specs.declared.replies.Stop.{Stop}
use Rattle.store_types.specs.declared.replies.Stop.TheVariants.{Refused, Failed}
use Rattle.store_types.specs.View.{answer_view, failure_view}
use Rattle.store_promises.specs.Durability.{LeavesOthers, StaysDurable}
use Rattle.store_promises.specs.Crashes.{LeavesPassed}
use Rattle.store_promises.specs.Causes.{HasCause}

-- the request in a world, with its answer or stop, and the world afterwards: an answer from the disk is the right one
-- if the disk is clean
abbrev pub MeetsOver : Type 0 → Settings → World → Caller → Request → Result Answer Stop → World → Type 0
MeetsOver is_clean s w c q (Ok a) new =
    (refusal s w q ≡ None) × ((IsTrue (reads_disk q) → is_clean) → answer_view a ≡ answer s w c q)
    × (new ≡ effect s w q)
MeetsOver is_clean s w c q (Err (Refused r)) new = (refusal s w q ≡ Some r) × (new ≡ w)
MeetsOver is_clean s w c q (Err (Failed f)) new = new ≡ w

-- the reply for an answer or a stop
abbrev pub reply_to : Result Answer Stop → replied.Reply
reply_to (Ok a) = replied.done (answer_view a)
reply_to (Err (Refused r)) = replied.refused r
reply_to (Err (Failed f)) = replied.failed (failure_view f)

abbrev pub IsAnswered : Result Answer Stop → Type 0
IsAnswered (Ok a) = Unit {0}
IsAnswered (Err stop) = ⊥

abbrev pub IsRefused : Result Answer Stop → Type 0
IsRefused (Err (Refused r)) = Unit {0}
IsRefused (Err (Failed f)) = ⊥
IsRefused (Ok a) = ⊥

module _ {S : Type 0} (g : Ghosts S) where
  -- a request over tables
  pub record IsMet (s : Settings) (c : Caller) (q : Request) (r : Result Answer Stop) (old new : TablesValue S)
      : Type 0 where
    pub dir : new.dir ≡ old.dir
    -- from each world that the tables described before, the request leads to one that they describe now
    pub world : (w : World) → HasWorld g old w
        → (next : World) × MeetsOver (HasCleanDisk (state g new.connection)) s w c q r next × HasWorld g new next
    -- a failure has its cause
    pub cause : (w : World) → HasWorld g old w → HasCause g q (reply_to r) old new
    -- whether the request is done or not, what other programs have in the database is as it was
    pub others : LeavesOthers g old new
    -- a refusal leaves the tables as they were
    pub still : IsRefused r → new ≡ old
    -- what is done outlives a crash
    pub stays_durable : IsAnswered r → StaysDurable g old new
    -- a crash leaves what it could leave before, or the tables of the done case, if no test fails
    pub survives : (w : World) → HasWorld g old w → Survives (state g old.connection) (state g new.connection)
        (λ db. LeavesPassed old.dir (state g old.connection).now db s w q)

  -- a read from the disk: the tables describe the same worlds as before
  pub record OnlyReads (old new : TablesValue S) : Type 0 where
    pub dir : new.dir ≡ old.dir
    pub reported : (w : World) → HasWorld g old w → HasWorld g new w
    pub shown : HasCleanDisk (state g new.connection) → KeepsShown (state g old.connection) (state g new.connection)
    pub stays_durable : StaysDurable g old new
    pub survives : Survives (state g old.connection) (state g new.connection) (λ _. ⊥)
