use Rattle.std.proofs.Common.{◌+◌, ◌∙◌, ap, arith, length}
use Rattle.live.specs.Keeping.{keep_view}
use Rattle.live.proofs.Walked.{start_at, begin_at, consumed_at, smaller, placed, ended, finish_at}
use Rattle.live.specs.Marks.{Frontier}
use Rattle.live.proofs.Firsts.{exact_at}
use Rattle.live.proofs.marks.mark.Goals as goal

pub roots-init : goal.roots-init
roots-init c = start_at (keep_view c.args.keep) c.args.graph.now c.args.roots.now c.len.ensures.inside c.requires
    _ _ _ _ c.in_ok-walk.ensures.first c.len.ensures.value c.len-none.ensures c.in_ok-walk.ensures.waiting
    c.new-walker.ensures

pub work-init : goal.work-init
work-init c = begin_at (keep_view c.args.keep) c.args.graph.now c.args.roots.now c.len.ensures.inside c.requires
    c.roots.root c.len-none.result c.root-target.result c.roots.walk c.reach.new.self c.roots.walker
    c.root-target.new.self
    c.roots-test.true c.len-none.ensures c.root-target.ensures.value c.roots.invariant.1 c.roots.invariant.0
    c.in_ok-reach.ensures c.root-target.ensures.counted

pub take-requires : goal.take-requires
take-requires c = record {
  place = placed (keep_view c.args.keep) c.args.graph.now c.args.roots.now c.len.ensures.inside c.requires
      c.roots.root c.in-Some.place c.work.walk c.next.new.self c.work.walker c.work.invariant
      c.in-Some.ensures.some.waiting;
  places = ap length c.in-Some.ensures.some.first ∙ c.work.invariant.places;
}

pub work-smaller : goal.work-smaller
work-smaller c = smaller (keep_view c.args.keep) c.args.graph.now c.args.roots.now c.len.ensures.inside c.requires
    c.roots.root c.len-none.result c.in-Some.place c.work.walk c.next.new.self c.take.new.self c.work.walker
    c.roots-test.true c.len-none.ensures c.work.invariant
    c.in-Some.ensures.some.first c.in-Some.ensures.some.waiting c.in_ok-take.ensures.reached

pub work-preserved : goal.work-preserved
work-preserved c = consumed_at (keep_view c.args.keep) c.args.graph.now c.args.roots.now c.len.ensures.inside c.requires
    c.roots.root c.len-none.result c.in-Some.place c.work.walk c.next.new.self c.take.new.self c.work.walker
    c.roots-test.true c.len-none.ensures c.work.invariant
    c.in-Some.ensures.some.first c.in-Some.ensures.some.waiting c.in_ok-take.ensures.reached c.take.new.walker
    c.in_ok-take.ensures.counted

pub roots-preserved : goal.roots-preserved
roots-preserved c = ended (keep_view c.args.keep) c.args.graph.now c.args.roots.now c.len.ensures.inside c.requires
    (c.roots.root + 1) c.work.walk c.next.new.self c.work.walker c.work.invariant c.in_default.ensures.none.first
    c.in_default.ensures.none.waiting c.in_default.ensures.none.none

marking_of : goal.returns-clause-places
marking_of c = finish_at (keep_view c.args.keep) c.args.graph.now c.args.roots.now c.len.ensures.inside c.requires
    c.roots.root c.len-none.result c.roots.walk c.roots.walker c.walk-2.inside.first.items c.steps.result
    c.roots-test.false c.roots.auto.root-end c.len-none.ensures c.roots.invariant.1 c.roots.invariant.0
    (ap (λ (f : Frontier). f.first) c.walk-2.view_is) c.steps.ensures (omega arith) c.len.result (omega arith)
    c.len.ensures.value

pub returns-clause-places : goal.returns-clause-places
returns-clause-places c = marking_of c

pub returns-clause-paths : goal.returns-clause-paths
returns-clause-paths c rows given rise order is aimed =
    exact_at (keep_view c.args.keep) rows rise given order c.args.roots.now aimed c.args.graph.now is
    (record { first = c.walk-2.inside.first.items; none = c.len-none.result; steps = c.steps.result }) (marking_of c)
