use Rattle.std.proofs.Common.{◌≡◌, map, take}
use Rattle.live.specs.Arguments.{roots_view}
use Rattle.live.specs.Numbering.{root_at}
use Rattle.store_reach.proofs.reaching_roots.roots_at.Given as goal

-- those at the first places
abbrev pub invariant-loop-place : goal.invariant-loop-place
invariant-loop-place l = roots_view l.chosen.items ≡ map (root_at (roots_view l.roots)) (take l.place-index l.places)
