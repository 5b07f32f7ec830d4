use Rattle.std.proofs.Common.{take}
use Rattle.live.proofs.Looks.{IsReached}
use Rattle.live.proofs.walk.Walk.reach_all.Given as goal

abbrev pub invariant-loop-place : goal.invariant-loop-place
invariant-loop-place l = IsReached l.mark.none l.mark.root (take l.place-index l.places) l.fn.self l.self
