use Rattle.std.proofs.Common.{◌+◌}
use Rattle.std.specs.Prelude.{count_by, nat_le}
use Rattle.live.specs.Keeping.{keep_view}
use Rattle.live.proofs.Inward.{IsInward}
use Rattle.live.proofs.OneRoot.{waiting_count}
use Rattle.live.proofs.back_walk.walk_back.Given as goal

abbrev pub invariant-work : goal.invariant-work
invariant-work g l = IsInward (keep_view l.fn.keep) (g.S.Sources.entries l.links) l.named l.walk l.walker

abbrev pub decreases-work : goal.decreases-work
decreases-work g l = count_by (λ m. nat_le 1 m) l.walk.first + waiting_count l.walk.waiting
