use Rattle.std.proofs.Common.{sym, ap, ◌∙◌}
use Rattle.std.specs.FinMap as finite
use Rattle.tables_outline.specs.Outline.{OutlineValue}
use Rattle.model.specs.declared.refusal.Refusal.TheVariants.{NoRoot}
use Rattle.model.specs.Tests.{unless}
use Rattle.store_promises.proofs.validity.has_permanent.Goals as goal

pub returns-then-not-has_permanent : goal.returns-then-not-has_permanent
returns-then-not-has_permanent c w is =
    ap (λ b. unless b NoRoot) (ap (λ (o : OutlineValue). finite.contains_key o.permanent c.args.name.now) is
    ∙ sym c.has_permanent.ensures ∙ c.if-not-has_permanent.true)

pub returns : goal.returns
returns c w is =
    ap (λ b. unless b NoRoot) (ap (λ (o : OutlineValue). finite.contains_key o.permanent c.args.name.now) is
    ∙ sym c.has_permanent.ensures ∙ c.if-not-has_permanent.false)
