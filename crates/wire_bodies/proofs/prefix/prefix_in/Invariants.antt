use Rattle.std.proofs.Common.{take, drop}
use Rattle.wire_bodies.proofs.Prefixes.{Reached}
use Rattle.wire_bodies.proofs.prefix.prefix_in.Given as goal

abbrev pub invariant-loop-i : goal.invariant-loop-i
invariant-loop-i l = Reached l.fn.place l.piece l.next_place (take l.i l.piece) (drop l.i l.piece)
