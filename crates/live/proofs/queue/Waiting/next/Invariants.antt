use Rattle.std.proofs.Common.{◌≡◌, ◌≤◌, length}
use Rattle.live.proofs.queue.Waiting.next.Given as goal

abbrev pub invariant-blocks-2 : goal.invariant-blocks-2
invariant-blocks-2 l = (l.self.end ≤ l.self.at) × (l.self.waiting ≡ l.fn.self.waiting)

abbrev pub decreases-blocks-2 : goal.decreases-blocks-2
decreases-blocks-2 l = length l.self.blocks
