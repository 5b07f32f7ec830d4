use Rattle.std.proofs.Common.{sym, ap, ◌∙◌}
use Rattle.std.specs.FinMap as finite
use Rattle.model.specs.World.{temporary_cmp}
use Rattle.tables_outline.specs.Maps.{temporary_bytes}
use Rattle.tables_outline.specs.Outline.{OutlineValue}
use Rattle.tables_outline.proofs.Orders.{temporary_total, temporary_antisymmetric}
use Rattle.tables_outline.proofs.SetTrees.{set_keys, temporary_sorted}
use Rattle.tables_outline.proofs.outline.Outline.temporary_roots.Goals as goal

pub returns : goal.returns
returns c =
    sym (set_keys temporary_cmp temporary_bytes temporary_total temporary_antisymmetric c.self.inside.temporary.keys
    (temporary_sorted c.self.inside.temporary.keys c.len-count.ensures.ordered))
    ∙ ap (λ (o : OutlineValue). finite.keys o.temporary) c.self.view_is
