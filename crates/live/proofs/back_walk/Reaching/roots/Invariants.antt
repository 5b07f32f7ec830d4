use Rattle.std.proofs.Common.{◌≡◌}
use Rattle.std.specs.Prelude.{filter}
use Rattle.std.specs.List.{range_with_len, slice_index}
use Rattle.live.specs.Reaching.{is_marked}
use Rattle.live.proofs.back_walk.Reaching.roots.Given as goal

abbrev pub invariant-loop-root : goal.invariant-loop-root
invariant-loop-root l = l.found.items ≡ filter (λ k. is_marked l.self (slice_index l.roots k)) (range_with_len 0 l.root)
