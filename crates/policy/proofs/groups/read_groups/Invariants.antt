use Rattle.std.proofs.Common.{◌≡◌}
use Rattle.std.specs.FinMap.{empty}
use Rattle.toml.specs.View.{members_view}
use Rattle.policy.specs.Toml.{with_groups}
use Rattle.policy.proofs.groups.read_groups.Given as goal

abbrev pub invariant-loop-name : goal.invariant-loop-name
invariant-loop-name l =
    with_groups l.groups (members_view l.name-iterator) ≡ with_groups empty (members_view l.initial.name-iterator)
