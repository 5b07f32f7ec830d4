use Rattle.std.proofs.Common.{ℕ, List, sym, ap, ◌∙◌}
use Rattle.std.specs.Ordering.{eq_by_cmp}
use Rattle.std.specs.Map.{lookup}
use Rattle.std.specs.FinMap as finite
use Rattle.model.specs.World.{pair_cmp}
use Rattle.tables_outline.specs.Maps.{seen_map, pair_bytes}
use Rattle.tables_outline.specs.View.{outline_view}
use Rattle.tables_outline.specs.Outline.{OutlineValue}
use Rattle.tables_outline.proofs.Orders.{pair_total, pair_antisymmetric}
use Rattle.tables_outline.proofs.Trees.{removed}
use Rattle.tables_outline.proofs.outline.Outline.drop_user_root.Goals as goal

pub returns : goal.returns
returns c =
    ap (λ m. record (outline_view c.self.inside) { user_roots = m })
    (ap (seen_map pair_cmp pair_bytes (λ (t : List ℕ). t)) c.remove.ensures.entries
    ∙ removed pair_cmp pair_bytes (λ (t : List ℕ). t) pair_total pair_antisymmetric c.self.inside.user_roots.entries
    (pair_bytes c.args.owned.now)
    (ap (lookup (λ k. eq_by_cmp pair_cmp (pair_bytes c.args.owned.now) (pair_bytes k))) (sym c.remove.ensures.entries)
    ∙ c.remove.ensures.updates.1))
    ∙ ap (λ (o : OutlineValue). record o { user_roots = finite.remove o.user_roots (pair_bytes c.args.owned.now) })
    c.self.view_is
