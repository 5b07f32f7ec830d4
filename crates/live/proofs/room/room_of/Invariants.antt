use Rattle.std.proofs.Common.{◌≡◌, length}
use Rattle.live.proofs.room.room_of.Given as goal

abbrev pub invariant-loop-place : goal.invariant-loop-place
invariant-loop-place l = length l.room.items ≡ length l.graph
