use Rattle.std.proofs.Common.{◌≡◌, ◌<◌, Bool, false, [], length, map, take}
use Rattle.std.specs.Prelude.{All, filter}
use Rattle.std.specs.List.{list_any}
use Rattle.live.specs.Graph.{same}
use Rattle.live.specs.Arguments.{rows_view}
use Rattle.live.specs.Numbering.{path_at, paths_of}
use Rattle.model.specs.World.{Path}
use Rattle.store_reach.proofs.deletion.places.Given as goal

-- those of the first paths
abbrev pub invariant-loop-path : goal.invariant-loop-path
invariant-loop-path l = All (λ k. k < length l.rows) l.places.items
    × ((test : Path → Bool) → ((p : Path) → filter (same p) (paths_of (rows_view l.rows)) ≡ [] → test p ≡ false)
    → list_any test (map (path_at (rows_view l.rows)) l.places.items) ≡ list_any test (take l.path-index l.named))
