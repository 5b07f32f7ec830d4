use Rattle.std.proofs.Common.{ap, ◌∙◌}
use Rattle.std.specs.FinMap as finite
use Rattle.model.specs.World.{pair_cmp}
use Rattle.tables_outline.specs.Maps.{seen_set, labelled_bytes}
use Rattle.tables_outline.specs.View.{outline_view}
use Rattle.tables_outline.specs.Outline.{OutlineValue}
use Rattle.tables_outline.proofs.Orders.{pair_total, pair_antisymmetric}
use Rattle.tables_outline.proofs.SetTrees.{key_inserted}
use Rattle.tables_outline.proofs.outline.Outline.add_runtime.Goals as goal

pub returns : goal.returns
returns c =
    ap (λ m. record (outline_view c.self.inside) { runtime = m })
    (ap (seen_set pair_cmp labelled_bytes) c.in_ok-insert.ensures.keys
    ∙ key_inserted pair_cmp labelled_bytes pair_total pair_antisymmetric c.self.inside.runtime.keys
    (c.args.label, c.args.target))
    ∙ ap (λ (o : OutlineValue). record o {
      runtime =
          finite.insert o.runtime (labelled_bytes (c.args.label, c.args.target)) tt;
    }) c.self.view_is
