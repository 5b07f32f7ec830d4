use Rattle.std.proofs.Common.{sym, ap, ◌∙◌}
use Rattle.std.specs.FinMap as finite
use Rattle.model.specs.World.{pair_cmp}
use Rattle.tables_outline.specs.Maps.{pair_bytes}
use Rattle.tables_outline.specs.View.{profile_view}
use Rattle.tables_outline.specs.Outline.{OutlineValue}
use Rattle.tables_outline.proofs.Orders.{pair_total, pair_antisymmetric}
use Rattle.tables_outline.proofs.Trees.{listed}
use Rattle.tables_outline.proofs.outline.Outline.profiles.Goals as goal

pub returns : goal.returns
returns c =
    sym (listed pair_cmp pair_bytes profile_view pair_total pair_antisymmetric c.self.inside.profiles.entries
    c.len-count.ensures.ordered)
    ∙ ap (λ (o : OutlineValue). finite.entries o.profiles) c.self.view_is
