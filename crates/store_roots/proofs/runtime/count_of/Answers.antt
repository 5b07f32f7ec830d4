use Rattle.std.proofs.Common.{sym, ◌∙◌}
use Rattle.model.specs.World.{pair_cmp}
use Rattle.tables_outline.specs.Maps.{labelled_bytes}
use Rattle.tables_outline.proofs.Orders.{pair_total, pair_antisymmetric}
use Rattle.store_roots.proofs.RuntimePairs.{counted}
use Rattle.store_roots.proofs.runtime.count_of.Goals as goal

pub returns : goal.returns
returns c = record {
  count =
      c.len.ensures.len ∙ sym (counted pair_cmp labelled_bytes pair_total pair_antisymmetric c.args.roots.now.keys
      c.len.ensures.ordered);
  ordered = c.len.ensures.ordered;
}
