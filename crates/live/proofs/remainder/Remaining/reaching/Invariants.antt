use Rattle.std.proofs.Common.{◌≡◌, ◌&&◌}
use Rattle.std.specs.Prelude.{filter, nat_lt}
use Rattle.std.specs.List.{range_with_len, slice_index}
use Rattle.live.specs.Remainder.{is_in}
use Rattle.live.proofs.remainder.Remaining.reaching.Given as goal

abbrev pub invariant-loop-other : goal.invariant-loop-other
invariant-loop-other l =
    l.reaching.items ≡ filter (λ i. is_in l.self.left i && nat_lt (slice_index l.marks.items i) 1)
    (range_with_len 0 l.other)
