use Rattle.std.proofs.Common.{◌≡◌}
use Rattle.std.specs.BinaryHeap.{heap_items, heap_len}
use Rattle.live.specs.Remainder.{IsRemaining, nothing_owed}
use Rattle.live.proofs.remainder.Remaining.next_unreferred.Given as goal

abbrev pub invariant-search : goal.invariant-search
invariant-search l =
    IsRemaining l.graph nothing_owed
    (record {
      dead = l.self-inside.dead.items;
      left = l.self-inside.left.items;
      referrers = l.self-inside.referrers.items;
      ready = heap_items l.self-inside.ready;
    })
    × (l.self-inside.dead.items ≡ l.fn.self.dead) × (l.self-inside.left.items ≡ l.fn.self.left)

abbrev pub decreases-search : goal.decreases-search
decreases-search l = heap_len l.self-inside.ready
