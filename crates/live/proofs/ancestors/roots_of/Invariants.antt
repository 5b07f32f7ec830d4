use Rattle.std.proofs.Common.{◌≡◌}
use Rattle.std.specs.Prelude.{filter, nat_lt}
use Rattle.std.specs.List.{range_with_len, slice_index}
use Rattle.live.proofs.ancestors.roots_of.Given as goal

abbrev pub invariant-loop-root : goal.invariant-loop-root
invariant-loop-root l =
    l.reaching.items ≡ filter (λ k. nat_lt (slice_index l.marks.items (slice_index l.roots k)) 1)
    (range_with_len 0 l.root)
