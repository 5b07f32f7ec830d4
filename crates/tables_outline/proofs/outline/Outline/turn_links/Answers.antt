use Rattle.std.proofs.Common.{ap, ◌∙◌}
use Rattle.std.specs.FinMap as finite
use Rattle.paths.specs.Root.{bytes_cmp}
use Rattle.tables_outline.specs.View.{outline_view}
use Rattle.tables_outline.specs.Outline.{Outlined}
use Rattle.tables_outline.proofs.outline.Outline.turn_links.Goals as goal

pub returns : goal.returns
returns c =
    ap (λ (m : finite.FinMap bytes_cmp Outlined). record (outline_view c.self.inside) { objects = m }) c.turn.ensures
    ∙ c.self.view_is
