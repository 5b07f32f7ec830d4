use Rattle.live.specs.Places.{entries_at, held}
use Rattle.live.proofs.Looks.{IsLooked}
use Rattle.live.proofs.walk.Walk.look_if.Given as goal

abbrev pub invariant-loop-entry : goal.invariant-loop-entry
invariant-loop-entry l =
    IsLooked l.mark.none l.mark.root (held (entries_at l.graph l.range.place)) l.range.from l.entry l.fn.self l.self
    l.fn.walker l.walker
