use Rattle.live.proofs.Rooms.{AreBegun}
use Rattle.live.proofs.reversed_graph.Reversed.new.Given as goal

abbrev pub invariant-loop-count : goal.invariant-loop-count
invariant-loop-count l = AreBegun l.count-index l.start l.ranges.items
