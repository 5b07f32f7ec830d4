use Rattle.std.proofs.Common.{ap, ◌∙◌}
use Rattle.std.specs.FinMap as finite
use Rattle.paths.specs.Root.{bytes_cmp}
use Rattle.tables_outline.specs.View.{outline_view}
use Rattle.tables_outline.specs.Outline.{OutlineValue, Outlined}
use Rattle.tables_outline.proofs.outline.Outline.remove_object.Goals as goal

pub returns : goal.returns
returns c =
    ap (λ (m : finite.FinMap bytes_cmp Outlined). record (outline_view c.self.inside) { objects = m }) c.remove.ensures
    ∙ ap (λ (o : OutlineValue). record o { objects = finite.remove o.objects c.args.path.now }) c.self.view_is
