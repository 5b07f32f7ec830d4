use Rattle.std.proofs.Common.{refl, ap, ◌∙◌}
use Rattle.model.specs.Reply.{paths}
use Rattle.store_promises.proofs.Outlined.{all_outlined}
use Rattle.store.proofs.records.list.Goals as goal

pub returns : goal.returns
returns c s caller w is = (refl, ap paths (c.in_ok-paths.ensures ∙ all_outlined c.args.outline.now w is), refl)
