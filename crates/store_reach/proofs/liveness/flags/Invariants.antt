use Rattle.std.proofs.Common.{◌≡◌, map}
use Rattle.std.specs.Prelude.{is_some}
use Rattle.std.specs.List.{range_with_len}
use Rattle.live.specs.Marks.{first_of}
use Rattle.store_reach.proofs.liveness.flags.Given as goal

-- the first places
abbrev pub invariant-loop-place : goal.invariant-loop-place
invariant-loop-place l = l.flags.items ≡ map (λ i. is_some (first_of l.marks i)) (range_with_len 0 l.place)
