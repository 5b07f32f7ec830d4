use Rattle.std.proofs.Common.{◌≡◌, map, take}
use Rattle.std.specs.Prelude.{filter}
use Rattle.live.specs.Arguments.{roots_view}
use Rattle.paths.specs.RootView.{root_view}
use Rattle.store_reach.proofs.Valid.{aims_well}
use Rattle.store_reach.proofs.graph.of_valid.Given as goal

-- those of the first
abbrev pub invariant-loop-root : goal.invariant-loop-root
invariant-loop-root l =
    roots_view l.valid.items ≡ filter (aims_well l.outline) (map root_view (take l.root-index l.roots))
