use Rattle.std.proofs.Common.{◌≡◌, length}
use Rattle.live.proofs.room.add_room.Given as goal

abbrev pub invariant-loop-entry : goal.invariant-loop-entry
invariant-loop-entry l = length l.room.items ≡ length l.graph
