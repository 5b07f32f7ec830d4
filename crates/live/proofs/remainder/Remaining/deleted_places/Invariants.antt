use Rattle.std.proofs.Common.{◌≡◌}
use Rattle.std.specs.Prelude.{filter, not}
use Rattle.std.specs.List.{range_with_len}
use Rattle.live.specs.Remainder.{is_in}
use Rattle.live.proofs.remainder.Remaining.deleted_places.Given as goal

abbrev pub invariant-loop-place : goal.invariant-loop-place
invariant-loop-place l = l.deleted_places.items ≡ filter (λ i. not (is_in l.self.left i)) (range_with_len 0 l.place)
