use Rattle.std.proofs.Common.{sym, ap, ◌∙◌}
use Rattle.model.specs.declared.refusal.Refusal.TheVariants.{MissingReference}
use Rattle.model.specs.Tests.{unless}
use Rattle.store_adds.proofs.Complete.{complete_by}
use Rattle.store_adds.proofs.references.are_valid.Goals as goal

pub returns-then-not-is_complete : goal.returns-then-not-is_complete
returns-then-not-is_complete c w is =
    ap (λ b. unless b MissingReference)
    (complete_by c.args.outline.now w c.args.path.now c.args.refs.now is ∙ sym c.is_complete.ensures
    ∙ c.if-not-is_complete.true)

pub returns : goal.returns
returns c w is =
    ap (λ b. unless b MissingReference)
    (complete_by c.args.outline.now w c.args.path.now c.args.refs.now is ∙ sym c.is_complete.ensures
    ∙ c.if-not-is_complete.false)
