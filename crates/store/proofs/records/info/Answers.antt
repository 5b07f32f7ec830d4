use Rattle.std.proofs.Common.{[], ◌∷◌, Some, None, refl, ap, ◌∙◌}
use Rattle.model.specs.Reply.{record_of}
use Rattle.model.specs.declared.refusal.Refusal.TheVariants.{NotValid}
use Rattle.model.specs.Tests.{unless, first_failing}
use Rattle.store_promises.proofs.Outlined.{valid_by, record_by}
use Rattle.store.proofs.records.info.Goals as goal

pub returns-in_default : goal.returns-in_default
returns-in_default c s caller w is = (
  ap (λ b. first_failing (unless b NotValid ∷ []))
      (valid_by c.args.outline.now w c.args.path None is c.in_default.ensures),
  refl,
)

pub returns : goal.returns
returns c s caller w is = (
  ap (λ b. first_failing (unless b NotValid ∷ []))
      (valid_by c.args.outline.now w c.args.path (Some c.in-Some.object.now) is c.in-Some.ensures),
  ap record_of c.in_ok-record.ensures
      ∙ record_by c.args.outline.now w c.args.path c.in-Some.object.now is c.in-Some.ensures,
  refl,
)
