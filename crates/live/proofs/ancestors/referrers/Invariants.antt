use Rattle.std.proofs.Common.{◌≡◌}
use Rattle.std.specs.Prelude.{filter, nat_lt}
use Rattle.std.specs.List.{range_with_len, slice_index}
use Rattle.live.proofs.ancestors.referrers.Given as goal

abbrev pub invariant-loop-place : goal.invariant-loop-place
invariant-loop-place l =
    l.referring.items ≡ filter (λ k. nat_lt (slice_index l.marks.items k) 1) (range_with_len 0 l.place)
