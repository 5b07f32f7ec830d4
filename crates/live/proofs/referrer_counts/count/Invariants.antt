use Rattle.std.proofs.Common.{take}
use Rattle.live.specs.Places.{entries_at}
use Rattle.live.proofs.Counts.{IsCounted}
use Rattle.live.proofs.referrer_counts.count.Given as goal

abbrev pub invariant-loop-entry : goal.invariant-loop-entry
invariant-loop-entry l =
    IsCounted l.place (take l.entry (entries_at l.graph l.place).references) l.fn.referrers.items l.referrers.items
