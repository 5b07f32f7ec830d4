use Rattle.live.proofs.Looks.{IsLooked}
use Rattle.live.proofs.walk.Walk.reach_sources.Given as goal

abbrev pub invariant-loop-index : goal.invariant-loop-index
invariant-loop-index l = IsLooked 1 0 l.sources 0 l.index l.fn.self l.self l.fn.walker l.walker
