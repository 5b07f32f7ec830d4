use Rattle.std.proofs.Common.{sym, ap, ◌∙◌}
use Rattle.model.specs.declared.refusal.Refusal.TheVariants.{NotValid}
use Rattle.model.specs.Tests.{unless}
use Rattle.store_promises.proofs.Outlined.{all_valid_by}
use Rattle.store_promises.proofs.validity.are_valid.Goals as goal

pub returns-then-not-has_all : goal.returns-then-not-has_all
returns-then-not-has_all c w is =
    ap (λ b. unless b NotValid) (all_valid_by c.args.outline.now w c.args.paths.now is ∙ sym c.has_all.ensures
    ∙ c.if-not-has_all.true)

pub returns : goal.returns
returns c w is =
    ap (λ b. unless b NotValid) (all_valid_by c.args.outline.now w c.args.paths.now is ∙ sym c.has_all.ensures
    ∙ c.if-not-has_all.false)
