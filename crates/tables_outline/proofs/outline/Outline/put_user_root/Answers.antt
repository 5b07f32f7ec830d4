use Rattle.std.proofs.Common.{ℕ, List, sym, ap, ◌∙◌}
use Rattle.std.specs.Ordering.{eq_by_cmp}
use Rattle.std.specs.Map.{lookup}
use Rattle.std.specs.FinMap as finite
use Rattle.model.specs.World.{pair_cmp}
use Rattle.tables_outline.specs.Maps.{seen_map, pair_bytes}
use Rattle.tables_outline.specs.View.{outline_view}
use Rattle.tables_outline.specs.Outline.{OutlineValue}
use Rattle.tables_outline.proofs.Orders.{pair_total, pair_antisymmetric}
use Rattle.tables_outline.proofs.Trees.{inserted, get_seen}
use Rattle.tables_outline.proofs.Puts.{option_same}
use Rattle.tables_outline.proofs.outline.Outline.put_user_root.Goals as goal

pub returns : goal.returns
returns c = record {
  done =
      ap (λ m. record (outline_view c.self.inside) { user_roots = m })
      (ap (seen_map pair_cmp pair_bytes (λ (t : List ℕ). t)) c.in_ok-had.ensures.entries
      ∙ inserted pair_cmp pair_bytes (λ (t : List ℕ). t) pair_total pair_antisymmetric c.self.inside.user_roots.entries
      c.args.owned c.args.target)
      ∙ ap (λ (o : OutlineValue). record o {
        user_roots =
            finite.insert o.user_roots (pair_bytes c.args.owned) c.args.target;
      }) c.self.view_is;
  had =
      c.in_ok-had.ensures.old
      ∙ sym (option_same (lookup (λ k. eq_by_cmp pair_cmp (pair_bytes c.args.owned) (pair_bytes k))
      c.self.inside.user_roots.entries))
      ∙ sym (get_seen pair_cmp pair_bytes (λ (t : List ℕ). t) pair_total pair_antisymmetric
      c.self.inside.user_roots.entries (pair_bytes c.args.owned))
      ∙ ap (λ (o : OutlineValue). finite.get o.user_roots (pair_bytes c.args.owned)) c.self.view_is;
  failed = tt;
}
