use Rattle.std.proofs.Common.{sym, ap, ◌∙◌}
use Rattle.std.specs.Prelude.{string_bytes}
use Rattle.std.specs.FinMap as finite
use Rattle.tables_outline.specs.Outline.{OutlineValue}
use Rattle.model.specs.declared.refusal.Refusal.TheVariants.{NoProfile}
use Rattle.model.specs.Tests.{unless}
use Rattle.store_promises.proofs.validity.has_profile.Goals as goal

pub returns-then-not-has_profile-clause-reported : goal.returns-then-not-has_profile-clause-reported
returns-then-not-has_profile-clause-reported c w is =
    ap (λ b. unless b NoProfile) (ap
    (λ (o : OutlineValue). finite.contains_key o.profiles
    (string_bytes c.args.owned.now.0, string_bytes c.args.owned.now.1)) is ∙ sym c.has_profile.ensures
    ∙ c.if-not-has_profile.true)

pub returns-clause-reported : goal.returns-clause-reported
returns-clause-reported c w is =
    ap (λ b. unless b NoProfile) (ap
    (λ (o : OutlineValue). finite.contains_key o.profiles
    (string_bytes c.args.owned.now.0, string_bytes c.args.owned.now.1)) is ∙ sym c.has_profile.ensures
    ∙ c.if-not-has_profile.false)

pub returns-clause-present : goal.returns-clause-present
returns-clause-present c = sym c.has_profile.ensures ∙ c.if-not-has_profile.false
