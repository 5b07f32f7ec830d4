use Rattle.std.proofs.Common.{sym, ap, ◌∙◌}
use Rattle.std.specs.FinMap as finite
use Rattle.model.specs.World.{pair_cmp}
use Rattle.tables_outline.specs.Maps.{labelled_bytes}
use Rattle.tables_outline.specs.Outline.{OutlineValue}
use Rattle.tables_outline.proofs.Orders.{pair_total, pair_antisymmetric}
use Rattle.tables_outline.proofs.SetTrees.{set_keys}
use Rattle.tables_outline.proofs.outline.Outline.runtime_roots.Goals as goal

pub returns : goal.returns
returns c =
    sym (set_keys pair_cmp labelled_bytes pair_total pair_antisymmetric c.self.inside.runtime.keys
    c.len-count.ensures.ordered)
    ∙ ap (λ (o : OutlineValue). finite.keys o.runtime) c.self.view_is
