use Rattle.std.proofs.Common.{refl, ap, ◌∙◌}
use Rattle.model.specs.Liveness.{usage_of}
use Rattle.model.specs.Reply as replied
use Rattle.store_promises.proofs.Outlined.{all_outlined}
use Rattle.store.proofs.liveness.report.Goals as goal

pub returns : goal.returns
returns c caller w is = (
  refl,
  λ i. replied.usage
      ((c.usage.ensures w is ∙ ap (usage_of w) (c.deref.ensures.value ∙ c.in_ok-live.ensures.live w is)) i)
      ((c.usage-2.ensures w is ∙ ap (usage_of w) (c.deref-2.ensures.value ∙ c.in_ok-live.ensures.dead w is)) i)
      ((c.usage-3.ensures w is ∙ ap (usage_of w)
      (c.deref-3.ensures.value ∙ c.in_ok-all.ensures ∙ all_outlined c.args.outline.now w is)) i),
  refl,
)
