use Rattle.std.proofs.Common.{◌≡◌, ◌≤◌, ◌∙◌, sym, length, arith}
use Rattle.std.proofs.lemmas.Grind.{common_steps}
use Rattle.live.specs.Backward.{Reversed}
use Rattle.live.proofs.Rooms.{begun_none, begun_more, all_begun}
use Rattle.live.proofs.reversed_graph.Reversed.new.Goals as goal

pub loop-count-init : goal.loop-count-init
loop-count-init c = rw c.in_ok-ranges.ensures.items begun_none

pub loop-count-preserved : goal.loop-count-preserved
loop-count-preserved c =
    let more : c.loop-count.start ≤ c.in_ok-limit.limit = grind (arith, common_steps) in
    rw c.in_ok-push.ensures.items (begun_more c.loop-count.count-index c.loop-count.start c.in_ok-limit.limit
    c.loop-count.ranges.items c.loop-count.invariant more)

pub returns-clause-count : goal.returns-clause-count
returns-clause-count c = let count = c.loop-count.invariant.count in omega arith

pub returns-clause-empty : goal.returns-clause-empty
returns-clause-empty c =
    let len : length c.in_ok-sources.sources.items ≡ c.loop-count.start =
    sym c.in_ok-sources.sources.ok.0 ∙ c.in_ok-sources.ensures.len in
    let into : Reversed = record { ranges = c.loop-count.ranges.items; sources = c.in_ok-sources.sources.items } in
    (all_begun into c.loop-count.count-index c.loop-count.start c.loop-count.invariant len).0

pub invariant_of-result : goal.invariant_of-result
invariant_of-result c =
    let len : length c.in_ok-sources.sources.items ≡ c.loop-count.start =
    sym c.in_ok-sources.sources.ok.0 ∙ c.in_ok-sources.ensures.len in
    let into : Reversed = record { ranges = c.loop-count.ranges.items; sources = c.in_ok-sources.sources.items } in
    (all_begun into c.loop-count.count-index c.loop-count.start c.loop-count.invariant len).1
