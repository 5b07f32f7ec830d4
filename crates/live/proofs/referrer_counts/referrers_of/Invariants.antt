use Rattle.live.proofs.Counts.{CountedBelow}
use Rattle.live.proofs.referrer_counts.referrers_of.Given as goal

abbrev pub invariant-loop-place : goal.invariant-loop-place
invariant-loop-place l = CountedBelow l.graph l.place l.referrers.items
