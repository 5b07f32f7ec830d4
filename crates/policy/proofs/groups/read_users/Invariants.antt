use Rattle.std.proofs.Common.{◌≡◌, drop}
use Rattle.std.specs.FinMap.{empty}
use Rattle.toml.specs.View.{items_view}
use Rattle.policy.specs.Toml.{with_users}
use Rattle.policy.proofs.groups.read_users.Given as goal

abbrev pub invariant-loop-item : goal.invariant-loop-item
invariant-loop-item l =
    with_users l.users (items_view (drop l.item-index l.item-items)) ≡ with_users empty (items_view l.item-items)
