use Rattle.live.proofs.Counts.{object_counted}
use Rattle.live.proofs.referrer_counts.referrers_of.Goals as goal

pub loop-place-preserved : goal.loop-place-preserved
loop-place-preserved c =
    object_counted c.args.graph.now c.loop-place.place c.loop-place.referrers.items c.count.new.referrers.items
    c.loop-place.invariant c.in_ok-count.ensures.places c.in_ok-count.ensures.counted
