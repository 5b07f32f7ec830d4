use Rattle.std.proofs.Common.{ℕ, List, sym, ap, ◌∙◌}
use Rattle.std.specs.FinMap as finite
use Rattle.model.specs.World.{pair_cmp}
use Rattle.tables_outline.specs.Maps.{pair_bytes}
use Rattle.tables_outline.specs.Outline.{OutlineValue}
use Rattle.tables_outline.proofs.Orders.{pair_total, pair_antisymmetric}
use Rattle.tables_outline.proofs.Trees.{listed}
use Rattle.tables_outline.proofs.outline.Outline.user_roots.Goals as goal

pub returns : goal.returns
returns c =
    sym (listed pair_cmp pair_bytes (λ (t : List ℕ). t) pair_total pair_antisymmetric c.self.inside.user_roots.entries
    c.len-count.ensures.ordered)
    ∙ ap (λ (o : OutlineValue). finite.entries o.user_roots) c.self.view_is
