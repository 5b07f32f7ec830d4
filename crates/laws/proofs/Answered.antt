-- There is always a reply that isn't a failure.
use Rattle.std.proofs.Common.{◌≡◌, Some, None, Option, refl}
use Rattle.policy.specs.Settings.{Settings}
use Rattle.policy.specs.Caller.{Caller}
use Rattle.model.specs.World.{World}
use Rattle.policy.specs.declared.kinds.Rule.{Rule}
use Rattle.model.specs.Request.{Request}
use Rattle.model.specs.Reply.{Reply, done, denied, refused}
use Rattle.model.specs.declared.refusal.Refusal.{Refusal}
use Rattle.model.specs.Verdict.{verdict, shown}
use Rattle.model.specs.Tests.{refusal}
use Rattle.model.specs.Effects.{effect}
use Rattle.model.specs.Answers.{answer}
use Rattle.model.specs.Step.{Step}
use Rattle.model.specs.Reply.{HasFailed}
use Rattle.laws.specs.Laws.{IsAnswered}

module _ (s : Settings) (w : World) (c : Caller) (q : Request) where
  Answered : Type 0
  Answered = (reply : Reply) × (new : World) × Step s w c q reply new × (HasFailed reply → ⊥)

  by_test : (o : Option Refusal) → refusal s w q ≡ o → verdict s w c q ≡ None → Answered
  unfolding Answered
  by_test (Some r) e v = (refused r, w, (v, e, refl), λ h. h)
  by_test None e v = (done (answer s w c q), effect s w q, (v, e, refl, refl), λ h. h)

  by_rule : (o : Option Rule) → verdict s w c q ≡ o → Answered
  unfolding Answered
  by_rule (Some r) v = (denied r (shown s w c q r), w, (v, refl, refl), λ h. h)
  by_rule None v = by_test (refusal s w q) refl v

pub answered : IsAnswered
unfolding Answered
answered s w c q = by_rule s w c q (verdict s w c q) refl
