use Rattle.std.proofs.Common.{◌≡◌, drop}
use Rattle.live.specs.Places.{entries_at}
use Rattle.live.specs.Remainder.{IsRemaining, times_in}
use Rattle.live.proofs.remainder.Remaining.forget.Given as goal

abbrev pub invariant-loop-entry : goal.invariant-loop-entry
invariant-loop-entry l =
    IsRemaining l.graph (times_in l.place (drop l.entry (entries_at l.graph l.place).references)) l.self
    × (l.self.dead ≡ l.fn.self.dead) × (l.self.left ≡ l.fn.self.left)
