use Rattle.std.proofs.Common.{◌≡◌, map, take}
use Rattle.live.specs.Arguments.{roots_view}
use Rattle.paths.specs.RootView.{root_view}
use Rattle.store_reach.proofs.graph.borrowed_roots.Given as goal

-- the first roots are borrowed
abbrev pub invariant-loop-root : goal.invariant-loop-root
invariant-loop-root l = roots_view l.given.items ≡ map root_view (take l.root-index l.roots)
