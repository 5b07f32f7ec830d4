-- The decision of the rules on a request before it is done.
use Rattle.std.specs.Prelude.{◌≡◌, false, Option, Some, None, option_map}
use Rattle.std.specs.List.{list_any}
use Rattle.policy.specs.Settings.{Settings}
use Rattle.policy.specs.Caller.{Caller}
use Rattle.policy.specs.Class.{class_of}
use Rattle.policy.specs.Rules.{first_broken}
use Rattle.model.specs.World.{World}
use Rattle.model.specs.Request.{Request}
use Rattle.model.specs.Reply.{Reply, denied, failed, memory}
use Rattle.model.specs.Liveness.{lives}
use Rattle.model.specs.Verdict.{operation_of, named_in}
use Rattle.model.specs.Step.{Step}

-- the denial by the first rule other than `Live` that forbids a request, if one does
abbrev pub denial_by_rules : Settings → Caller → Request → Option Reply
denial_by_rules s c q = option_map (λ rule. denied rule None) (first_broken (class_of s c) c (operation_of q))

-- The reply to a request that is not done: a denial or out of memory, a step that leaves the world as it is. `None`
-- if no rule forbids the request, and no path that it deletes by name is live.
abbrev pub IsForbidden : Settings → World → Caller → Request → Option Reply → Type 0
IsForbidden s w c q None =
    (first_broken (class_of s c) c (operation_of q) ≡ None) × (list_any (lives s w) (named_in q) ≡ false)
IsForbidden s w c q (Some (denied rule root)) = Step s w c q (denied rule root) w
IsForbidden s w c q (Some (failed f)) = (f ≡ memory) × Step s w c q (failed f) w
IsForbidden s w c q (Some _) = ⊥
