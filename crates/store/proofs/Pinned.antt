-- A root that exists before each call of a run over a disk keeps what it reached.
use Rattle.std.proofs.Common.{◌≡◌, List, [], ◌∷◌, sym, subst}
use Rattle.std.specs.Prelude.{Contains}
use Rattle.paths.specs.Root.{Root}
use Rattle.policy.specs.Settings.{Settings}
use Rattle.policy.specs.Caller.{Caller}
use Rattle.model.specs.World.{World, roots_of}
use Rattle.model.specs.Request.{Request}
use Rattle.model.specs.Reply.{Reply, done, denied, refused, failed}
use Rattle.model.specs.Answers.{answer}
use Rattle.model.specs.Pinning.{KeepsReached, RemainsThroughout, world_after}
use Rattle.model.proofs.Pins.{kept_here, kept_on, leads_on, pins}
use Rattle.store_promises.specs.Disk.{StepOver, RunOver}

-- a step over a disk leads where a step does, and a root keeps what it reached
pub record LeadsAndPins (s : Settings) (w : World) (q : Request) (reply : Reply) (new : World) : Type 0 where
  pub leads : new ≡ world_after s w q reply
  pub pins : (r : Root) → Contains (roots_of w) r → KeepsReached s r w new

module _ (is_clean : Type 0) (s : Settings) where
  step_over : (w : World) (c : Caller) (q : Request) (reply : Reply) (new : World) → StepOver is_clean s w c q reply new
      → LeadsAndPins s w q reply new
  step_over w c q (done a) new h =
      record {
        leads = leads_on s w c q (done (answer s w c q)) new h.0;
        pins = pins s w c q (done (answer s w c q)) new h.0;
      }
  step_over w c q (denied rule root) new h =
      record { leads = leads_on s w c q (denied rule root) new h; pins = pins s w c q (denied rule root) new h }
  step_over w c q (refused x) new h =
      record { leads = leads_on s w c q (refused x) new h; pins = pins s w c q (refused x) new h }
  step_over w c q (failed f) new h =
      record { leads = leads_on s w c q (failed f) new h; pins = pins s w c q (failed f) new h }

  pub run_pins : (w new : World) (r : Root) (calls : List (Caller × Request)) (replies : List Reply)
      → RunOver is_clean s w calls replies new → RemainsThroughout s w r calls replies → KeepsReached s r w new
  run_pins w new r [] [] run stays = kept_here s r w new run
  run_pins w new r (call ∷ calls) (reply ∷ replies) run stays =
      let first = step_over w call.0 call.1 reply run.0 run.1 in
      kept_on s r w run.0 new (first.pins r stays.0)
      (run_pins run.0 new r calls replies run.2
      (subst (λ (v : World). RemainsThroughout s v r calls replies) (sym first.leads) stays.1))
  run_pins w new r [] (reply ∷ replies) run stays = absurd run
  run_pins w new r (call ∷ calls) [] run stays = absurd run
