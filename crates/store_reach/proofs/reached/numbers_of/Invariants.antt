use Rattle.std.proofs.Common.{take}
use Rattle.store_reach.specs.Reached.{AreNumbersOf}
use Rattle.store_reach.proofs.reached.numbers_of.Given as goal

-- those of the first paths
abbrev pub invariant-loop-path : goal.invariant-loop-path
invariant-loop-path l = AreNumbersOf l.links (take l.path-index l.named) l.numbers.items
