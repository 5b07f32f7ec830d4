use Rattle.std.proofs.Common.{ap, ◌∙◌}
use Rattle.std.specs.FinMap as finite
use Rattle.tables_outline.specs.Outline.{OutlineValue}
use Rattle.tables_outline.proofs.outline.Outline.object.Goals as goal

pub returns : goal.returns
returns c = c.get.ensures ∙ ap (λ (o : OutlineValue). finite.get o.objects c.args.path.now) c.self.view_is
