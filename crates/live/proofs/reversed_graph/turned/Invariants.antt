use Rattle.live.specs.Backward.{IsTurnedBy, chosen}
use Rattle.live.proofs.reversed_graph.turned.Given as goal

abbrev pub invariant-loop-place : goal.invariant-loop-place
invariant-loop-place l = IsTurnedBy (chosen l.kinds) l.graph l.place l.into
