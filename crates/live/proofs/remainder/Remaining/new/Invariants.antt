use Rattle.std.specs.BinaryHeap.{heap_items}
use Rattle.live.proofs.Beginnings.{IsBegun}
use Rattle.live.proofs.remainder.Remaining.new.Given as goal

abbrev pub invariant-loop-place : goal.invariant-loop-place
invariant-loop-place l = IsBegun l.marks l.referrers.items l.place l.dead.items (heap_items l.ready)
