-- What a crash may leave of a call: the rows of its done case, if it has one.
use Rattle.std.specs.Prelude.{◌≡◌, ℕ, List, None}
use Rattle.sqlite.specs.Effect.{Database}
use Rattle.tables_sql.specs.Calls.{Remains}
use Rattle.policy.specs.Settings.{Settings}
use Rattle.policy.specs.Caller.{Caller}
use Rattle.model.specs.World.{World}
use Rattle.model.specs.Request.{Request}
use Rattle.model.specs.Reply.{done}
use Rattle.model.specs.Tests.{refusal}
use Rattle.model.specs.Effects.{effect}
use Rattle.model.specs.Answers.{answer}
use Rattle.model.specs.Step.{Step}
use Rattle.tables_writes.specs.TablesValue.{LeavesWorld}

-- The sound rows of a world to which the call leads if it is done. There are none if a rule denies the request or one
-- of its tests fails.
pub record LeavesDone (dir : List ℕ) (old : Database) (left : Remains) (s : Settings) (w : World) (c : Caller)
    (q : Request) : Type 0 where
  pub next : World
  pub step : Step s w c q (done (answer s w c q)) next
  pub rows : LeavesWorld dir old left next

-- a crash leaves the rows of the done case of a request that no rule forbids and none of whose tests fails
abbrev pub LeavesPassed : List ℕ → Database → Remains → Settings → World → Request → Type 0
LeavesPassed dir old left s w q = (refusal s w q ≡ None) × LeavesWorld dir old left (effect s w q)
