use Rattle.std.proofs.Common.{◌≡◌}
use Rattle.std.specs.Prelude.{filter}
use Rattle.std.specs.List.{range_with_len}
use Rattle.live.specs.Reaching.{is_marked}
use Rattle.live.proofs.back_walk.Reaching.places.Given as goal

abbrev pub invariant-loop-place : goal.invariant-loop-place
invariant-loop-place l = l.found.items ≡ filter (is_marked l.self) (range_with_len 0 l.place)
