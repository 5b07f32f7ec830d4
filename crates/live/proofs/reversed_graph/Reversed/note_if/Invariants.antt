use Rattle.std.specs.List.{slice_range}
use Rattle.live.specs.Places.{entries_at, held}
use Rattle.live.specs.Backward.{IsNoted}
use Rattle.live.proofs.reversed_graph.Reversed.note_if.Given as goal

abbrev pub invariant-loop-entry : goal.invariant-loop-entry
invariant-loop-entry l =
    IsNoted l.fn.self l.self l.range.place (slice_range (held (entries_at l.graph l.range.place)) l.range.from l.entry)
