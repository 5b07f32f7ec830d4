use Rattle.std.proofs.Common.{◌≡◌, map, take}
use Rattle.live.specs.Arguments.{rows_view}
use Rattle.live.specs.Numbering.{path_at}
use Rattle.store_reach.proofs.deletion.paths_at.Given as goal

-- those at the first places
abbrev pub invariant-loop-place : goal.invariant-loop-place
invariant-loop-place l = l.paths.items ≡ map (path_at (rows_view l.rows)) (take l.place-index l.places)
