use Rattle.std.proofs.Common.{sym, ap, ◌∙◌}
use Rattle.std.specs.FinMap as finite
use Rattle.tables_outline.specs.Outline.{OutlineValue}
use Rattle.model.specs.declared.refusal.Refusal.TheVariants.{NotValid}
use Rattle.model.specs.Tests.{unless}
use Rattle.store_promises.proofs.Outlined.{has_outlined}
use Rattle.store_promises.proofs.validity.is_valid.Goals as goal

pub returns-then-not-has : goal.returns-then-not-has
returns-then-not-has c w is =
    ap (λ b. unless b NotValid) (sym (has_outlined w c.args.path.now)
    ∙ ap (λ (o : OutlineValue). finite.contains_key o.objects c.args.path.now) is ∙ sym c.has.ensures
    ∙ c.if-not-has.true)

pub returns : goal.returns
returns c w is =
    ap (λ b. unless b NotValid) (sym (has_outlined w c.args.path.now)
    ∙ ap (λ (o : OutlineValue). finite.contains_key o.objects c.args.path.now) is ∙ sym c.has.ensures
    ∙ c.if-not-has.false)
