use Rattle.std.proofs.Common.{map, rules, sym, ap, ◌∙◌}
use Rattle.std.specs.FinMap as finite
use Rattle.paths.specs.Root.{root_cmp, in_order}
use Rattle.live.proofs.Order.{root_total, root_antisymmetric}
use Rattle.tables_outline.proofs.SetTrees.{set_keys}
use Rattle.paths.specs.RootView.{root_view}
use Rattle.tables_outline.proofs.Loops.{ended}
use Rattle.tables_outline.proofs.RootOrder.{sorted_by}
use Rattle.tables_outline.proofs.all_roots.root_list.Goals as goal

pub returns : goal.returns
unfolding in_order
returns c =
    ended root_view root_view c.loop-root.listed.items c.loop-root.root-iterator
    (map root_view c.into_iter-root-iterator.result) c.in-None.ensures.steps.0 c.loop-root.invariant
    ∙ ap (map root_view) c.into_iter-root-iterator.ensures.into_iter_gives.0
    ∙ sym (set_keys root_cmp root_view root_total root_antisymmetric c.in_ok-roots.roots.keys
    (sorted_by _ _ (λ a b. search rules) c.in_ok-roots.roots.keys
    c.into_iter-root-iterator.ensures.into_iter_gives.4))
    ∙ ap finite.keys c.in_ok-roots.ensures
