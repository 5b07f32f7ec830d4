use Rattle.std.proofs.Common.{ap, not, ◌∙◌}
use Rattle.std.specs.FinMap as finite
use Rattle.paths.specs.Root.{bytes_cmp}
use Rattle.live.specs.Graph.{holds}
use Rattle.tables_outline.specs.View.{outline_view}
use Rattle.tables_outline.specs.Outline.{OutlineValue, Outlined}
use Rattle.tables_outline.proofs.outline.Outline.remove_objects.Goals as goal

pub returns : goal.returns
returns c =
    ap (λ (m : finite.FinMap bytes_cmp Outlined). record (outline_view c.self.inside) { objects = m })
    c.remove_all.ensures ∙ ap (λ (o : OutlineValue).
    record o { objects = finite.retain_keys o.objects (λ p. not (holds c.args.paths.now p)) }) c.self.view_is
