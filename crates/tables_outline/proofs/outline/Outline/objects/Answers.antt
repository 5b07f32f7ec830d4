use Rattle.std.proofs.Common.{ap, ◌∙◌}
use Rattle.std.specs.FinMap as finite
use Rattle.tables_outline.specs.Outline.{OutlineValue}
use Rattle.tables_outline.proofs.outline.Outline.objects.Goals as goal

pub returns : goal.returns
returns c = c.all.ensures ∙ ap (λ (o : OutlineValue). finite.entries o.objects) c.self.view_is
