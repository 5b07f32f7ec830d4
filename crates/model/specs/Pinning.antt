-- A root keeps what it reaches.
use Rattle.std.specs.Prelude.{◌≡◌, List, ◌∷◌, Contains}
use Rattle.std.specs.FinMap as finite
use Rattle.paths.specs.Root.{Root}
use Rattle.live.specs.Reach.{Reaches}
use Rattle.model.specs.World.{Path, World, roots_of}
use Rattle.policy.specs.Settings.{Settings}
use Rattle.policy.specs.Caller.{Caller}
use Rattle.model.specs.Request.{Request}
use Rattle.model.specs.Liveness.{graph_of, keep_of}
use Rattle.model.specs.Effects.{effect}
use Rattle.model.specs.Step.{Step, Run}
use Rattle.model.specs.Reply.{Reply, done}

-- what a root reaches stays from the one world to the other: it is still reached, and its object is the same
abbrev pub KeepsReached : Settings → Root → World → World → Type 0
KeepsReached s r w new = (p : Path) → Reaches (keep_of s) (graph_of w) r.target p
    → Reaches (keep_of s) (graph_of new) r.target p × (finite.get new.objects p ≡ finite.get w.objects p)

-- over a step a root keeps what it reaches
abbrev pub Pins : Type 0
Pins = (s : Settings) (w : World) (c : Caller) (q : Request) (reply : Reply) (new : World) → Step s w c q reply new
    → (r : Root) → Contains (roots_of w) r → KeepsReached s r w new

-- the world after a request that had this reply: that of its effect where it is done, else the same
abbrev pub world_after : Settings → World → Request → Reply → World
world_after s w q (done a) = effect s w q
world_after s w q _ = w

-- a step leads to that world
abbrev pub LeadsOn : Type 0
LeadsOn = (s : Settings) (w : World) (c : Caller) (q : Request) (reply : Reply) (new : World) → Step s w c q reply new
    → new ≡ world_after s w q reply

-- the root exists before each of the calls that had these replies
abbrev pub RemainsThroughout : Settings → World → Root → List (Caller × Request) → List Reply → Type 0
RemainsThroughout s w r (call ∷ calls) (reply ∷ replies) =
    Contains (roots_of w) r × RemainsThroughout s (world_after s w call.1 reply) r calls replies
RemainsThroughout s w r _ _ = Unit {0}

-- over a run such a root keeps what it reached at the start
abbrev pub PinsOverRuns : Type 0
PinsOverRuns = (s : Settings) (w new : World) (r : Root) (calls : List (Caller × Request)) (replies : List Reply)
    → Run s w calls replies new → RemainsThroughout s w r calls replies → KeepsReached s r w new
