use Rattle.std.proofs.Common.{ap, ◌∙◌}
use Rattle.std.specs.FinMap as finite
use Rattle.tables_outline.specs.Outline.{OutlineValue}
use Rattle.tables_outline.proofs.outline.Outline.has.Goals as goal

pub returns : goal.returns
returns c = c.has.ensures ∙ ap (λ (o : OutlineValue). finite.contains_key o.objects c.args.path.now) c.self.view_is
