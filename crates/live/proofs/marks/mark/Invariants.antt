use Rattle.std.proofs.Common.{◌+◌}
use Rattle.std.specs.Prelude.{count_by, nat_le}
use Rattle.live.specs.Keeping.{keep_view}
use Rattle.live.specs.Marks.{NoneWaits}
use Rattle.live.proofs.OneRoot.{waiting_count}
use Rattle.live.proofs.Walks.{IsWalk}
use Rattle.live.proofs.marks.mark.Given as goal

abbrev pub invariant-work : goal.invariant-work
invariant-work l = IsWalk (keep_view l.keep) l.graph l.roots (l.root + 1) l.walk l.walker

abbrev pub decreases-work : goal.decreases-work
decreases-work l = count_by (λ m. nat_le l.none m) l.walk.first + waiting_count l.walk.waiting

abbrev pub invariant-roots : goal.invariant-roots
invariant-roots l = IsWalk (keep_view l.keep) l.graph l.roots l.root l.walk l.walker × NoneWaits l.walk.waiting
