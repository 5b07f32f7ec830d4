use Rattle.std.proofs.Common.{◌≡◌, map, take}
use Rattle.std.specs.Prelude.{Bool, filter}
use Rattle.live.specs.Arguments.{rows_view}
use Rattle.live.specs.Numbering.{paths_of}
use Rattle.model.specs.World.{Path}
use Rattle.store_reach.specs.Linked.{is_wanted}
use Rattle.store_reach.proofs.liveness.chosen.Given as goal

-- those of the first paths
abbrev pub invariant-loop-place : goal.invariant-loop-place
invariant-loop-place l =
    (test : Path → Bool) → l.lives ≡ map test (paths_of (rows_view l.rows))
    → l.chosen.items ≡ filter (λ p. is_wanted l.wanted (test p)) (take l.place (paths_of (rows_view l.rows)))
