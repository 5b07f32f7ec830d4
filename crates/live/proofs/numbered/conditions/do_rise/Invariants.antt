use Rattle.live.proofs.Conditions.{RiseBelow}
use Rattle.live.proofs.numbered.conditions.do_rise.Given as goal

abbrev pub invariant-loop-i : goal.invariant-loop-i
invariant-loop-i l = RiseBelow l.rows l.i
