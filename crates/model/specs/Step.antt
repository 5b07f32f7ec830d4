-- A step of a store, and runs of steps.
use Rattle.std.specs.Prelude.{◌≡◌, List, [], ◌∷◌, Option, Some, None}
use Rattle.model.specs.World.{World}
use Rattle.policy.specs.Settings.{Settings}
use Rattle.policy.specs.Caller.{Caller}
use Rattle.policy.specs.declared.kinds.Rule.{Rule}
use Rattle.policy.specs.declared.kinds.Rule.TheVariants.{Live}
use Rattle.model.specs.Request.{Request}
use Rattle.model.specs.Reply.{Reply, done, denied, refused, failed}
use Rattle.model.specs.Verdict.{verdict, shown}
use Rattle.model.specs.Tests.{refusal}
use Rattle.model.specs.Effects.{effect}
use Rattle.model.specs.Answers.{answer}

-- every rule allows, or all but `Live`
abbrev pub IsNoneOrLive : Option Rule → Type 0
IsNoneOrLive None = Unit {0}
IsNoneOrLive (Some Live) = Unit {0}
IsNoneOrLive (Some _) = ⊥

-- In this world the caller's request may have this reply and lead to that world.
abbrev pub Step : Settings → World → Caller → Request → Reply → World → Type 0
-- denied by the first rule that is broken; for `Live` a root is shown; the world stays
Step s w c q (denied rule root) new = (verdict s w c q ≡ Some rule) × (root ≡ shown s w c q rule) × (new ≡ w)
-- every rule allows it, and this is the first test that fails; the world stays
Step s w c q (refused r) new = (verdict s w c q ≡ None) × (refusal s w q ≡ Some r) × (new ≡ w)
-- the call failed: no rule but `Live` denies it, and the world stays
Step s w c q (failed f) new = IsNoneOrLive (verdict s w c q) × (new ≡ w)
-- every rule allows it and no test fails: the one answer, and the one effect
Step s w c q (done a) new =
    (verdict s w c q ≡ None) × (refusal s w q ≡ None) × (a ≡ answer s w c q) × (new ≡ effect s w q)

-- Calls, each a caller's request, may have these replies, one step after another.
abbrev pub Run : Settings → World → List (Caller × Request) → List Reply → World → Type 0
Run s w [] [] new = new ≡ w
Run s w (call ∷ calls) (reply ∷ replies) new =
    (mid : World) × Step s w call.0 call.1 reply mid × Run s mid calls replies new
Run s w [] (reply ∷ replies) new = ⊥
Run s w (call ∷ calls) [] new = ⊥
