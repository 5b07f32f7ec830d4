use Rattle.std.proofs.Common.{ℕ, List, sym, ap, ◌∙◌}
use Rattle.std.specs.FinMap as finite
use Rattle.model.specs.World.{pair_cmp}
use Rattle.tables_outline.specs.Maps.{pair_bytes}
use Rattle.tables_outline.specs.Outline.{OutlineValue}
use Rattle.tables_outline.proofs.Orders.{pair_total, pair_antisymmetric}
use Rattle.tables_outline.proofs.Trees.{has_seen}
use Rattle.tables_outline.proofs.outline.Outline.has_user_root.Goals as goal

pub returns : goal.returns
returns c =
    c.contains_key.ensures ∙ sym (has_seen pair_cmp pair_bytes (λ (t : List ℕ). t) pair_total pair_antisymmetric
    c.self.inside.user_roots.entries (pair_bytes c.args.owned.now))
    ∙ ap (λ (o : OutlineValue). finite.contains_key o.user_roots (pair_bytes c.args.owned.now)) c.self.view_is
