-- Laws of runs: one step after another.
use Rattle.std.specs.Prelude.{◌≡◌, ◌↔◌, List, [], ◌∷◌, ◌++◌, length}
use Rattle.policy.specs.Settings.{Settings}
use Rattle.policy.specs.Caller.{Caller}
use Rattle.model.specs.World.{World}
use Rattle.model.specs.Request.{Request}
use Rattle.model.specs.Reply.{Reply}
use Rattle.model.specs.Step.{Step, Run}

-- A run over no calls leaves the world; one over a single call is a step; and one over two lists is a run over the
-- first and then, from where that ends, one over the second.
pub record RunsStepByStep (s : Settings) (w new : World) : Type 0 where
  pub none : Run s w [] [] new ↔ (new ≡ w)
  pub one : (c : Caller) (q : Request) (reply : Reply) → Run s w ((c, q) ∷ []) (reply ∷ []) new ↔ Step s w c q reply new
  pub joined : (first second : List (Caller × Request)) (replies others : List Reply) → length first ≡ length replies
      → Run s w (first ++ second) (replies ++ others) new
      ↔ ((mid : World) × Run s w first replies mid × Run s mid second others new)
  pub alike : (calls : List (Caller × Request)) (replies : List Reply) → Run s w calls replies new
      → length calls ≡ length replies

abbrev pub RunsGoStepByStep : Type 0
RunsGoStepByStep = (s : Settings) (w new : World) → RunsStepByStep s w new
