-- One reply, one world: what a step determines once its failures are given.
use Rattle.std.proofs.Common.{◌≡◌, Some, None, sym, ap, ◌∙◌}
use Rattle.std.proofs.lemmas.Option.{same_Some}
use Rattle.model.specs.World.{World}
use Rattle.policy.specs.Settings.{Settings}
use Rattle.policy.specs.Caller.{Caller}
use Rattle.policy.specs.declared.kinds.Rule.{Rule}
use Rattle.model.specs.Request.{Request}
use Rattle.model.specs.Reply.{Reply, done, denied, refused, failed}
use Rattle.model.specs.declared.refusal.Refusal.{Refusal}
use Rattle.model.specs.Verdict.{verdict, shown}
use Rattle.model.specs.Tests.{refusal}
use Rattle.model.specs.Step.{Step}
use Rattle.model.specs.Labels.{FailAlike}

module _ (s : Settings) (v : World) (c : Caller) (q : Request) (n m : World) where
  no_rule : (r : Rule) → verdict s v c q ≡ Some r → verdict s v c q ≡ None → ⊥
  no_rule r e f = apart (sym e ∙ f)
    where
      apart : (Some r ≡ None) → ⊥
      apart k = cc

  no_test : (r : Refusal) → refusal s v q ≡ Some r → refusal s v q ≡ None → ⊥
  no_test r e f = apart (sym e ∙ f)
    where
      apart : (Some r ≡ None) → ⊥
      apart k = cc

  pub unique : (b d : Reply) → FailAlike b d → Step s v c q b n → Step s v c q d m → (b ≡ d) × (n ≡ m)
  unique (failed f) (failed g) e h k = (ap failed e, h.1 ∙ sym k.1)
  unique (done a) (done b) e h k = (ap done (h.2 ∙ sym k.2), h.3 ∙ sym k.3)
  unique (denied r x) (denied t y) e h k =
      let same = same_Some r t (sym h.0 ∙ k.0) in
      (ap (denied r) h.1 ∙ ap (λ (u : Rule). denied u (shown s v c q u)) same ∙ ap (denied t) (sym k.1), h.2 ∙ sym k.2)
  unique (refused r) (refused t) e h k = (ap refused (same_Some r t (sym h.1 ∙ k.1)), h.2 ∙ sym k.2)
  unique (done a) (denied r x) e h k = absurd (no_rule r k.0 h.0)
  unique (denied r x) (done a) e h k = absurd (no_rule r h.0 k.0)
  unique (refused t) (denied r x) e h k = absurd (no_rule r k.0 h.0)
  unique (denied r x) (refused t) e h k = absurd (no_rule r h.0 k.0)
  unique (done a) (refused t) e h k = absurd (no_test t k.1 h.1)
  unique (refused t) (done a) e h k = absurd (no_test t h.1 k.1)
  unique (failed f) (done a) e h k = absurd e
  unique (failed f) (denied r x) e h k = absurd e
  unique (failed f) (refused r) e h k = absurd e
  unique (done a) (failed f) e h k = absurd e
  unique (denied r x) (failed f) e h k = absurd e
  unique (refused r) (failed f) e h k = absurd e
