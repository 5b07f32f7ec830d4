-- Runs go one step after another.
use Rattle.std.proofs.Common.{◌≡◌, List, [], ◌∷◌, ◌++◌, length, refl, sym, arith, subst}
use Rattle.policy.specs.Settings.{Settings}
use Rattle.policy.specs.Caller.{Caller}
use Rattle.model.specs.World.{World}
use Rattle.model.specs.Request.{Request}
use Rattle.model.specs.Reply.{Reply}
use Rattle.model.specs.Step.{Step, Run}
use Rattle.laws.specs.Runs.{RunsGoStepByStep}

module _ (s : Settings) where
  splits : (w new : World) (first second : List (Caller × Request)) (replies others : List Reply)
      → length first ≡ length replies
      → Run s w (first ++ second) (replies ++ others) new
      → (mid : World) × Run s w first replies mid × Run s mid second others new
  splits w new [] second [] others e h = (w, refl, h)
  splits w new [] second (reply ∷ replies) others e h = absurd (omega (arith, e))
  splits w new (call ∷ first) second [] others e h = absurd (omega (arith, e))
  splits w new (call ∷ first) second (reply ∷ replies) others e h =
      let rest = splits h.0 new first second replies others (omega (arith, e)) h.2 in
      (rest.0, (h.0, h.1, rest.1), rest.2)

  joins : (w new : World) (first second : List (Caller × Request)) (replies others : List Reply)
      → length first ≡ length replies
      → (mid : World) × Run s w first replies mid × Run s mid second others new
      → Run s w (first ++ second) (replies ++ others) new
  joins w new [] second [] others e h = subst (λ (x : World). Run s x second others new) h.1 h.2
  joins w new [] second (reply ∷ replies) others e h = absurd (omega (arith, e))
  joins w new (call ∷ first) second [] others e h = absurd (omega (arith, e))
  joins w new (call ∷ first) second (reply ∷ replies) others e h =
      (h.1.0, h.1.1, joins h.1.0 new first second replies others (omega (arith, e)) (h.0, h.1.2, h.2))

  as_many : (w new : World) (calls : List (Caller × Request)) (replies : List Reply) → Run s w calls replies new
      → length calls ≡ length replies
  as_many w new [] [] h = refl
  as_many w new [] (reply ∷ replies) h = absurd h
  as_many w new (call ∷ calls) [] h = absurd h
  as_many w new (call ∷ calls) (reply ∷ replies) h = let rest = as_many h.0 new calls replies h.2 in omega (arith, rest)

pub runs_go_step_by_step : RunsGoStepByStep
runs_go_step_by_step s w new = record {
  none = ((λ h. h), (λ h. h));
  one = λ c q reply. (
    (λ h. subst (λ (x : World). Step s w c q reply x) (sym h.2) h.1),
    (λ h. (new, h, refl)),
  );
  joined =
      λ first second replies others
      e. (splits s w new first second replies others e, joins s w new first second replies others e);
  alike = λ calls replies h. as_many s w new calls replies h;
}
