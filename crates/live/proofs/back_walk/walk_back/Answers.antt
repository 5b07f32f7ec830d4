use Rattle.std.proofs.Common.{◌∙◌, ap, arith}
use Rattle.live.specs.Keeping.{keep_view}
use Rattle.live.specs.Marks.{Frontier}
use Rattle.live.proofs.Inward.{begin_at, count_at, finish_at, placed, smaller_at, visited_at}
use Rattle.live.proofs.Named.{exactly}
use Rattle.live.proofs.back_walk.walk_back.Goals as goal

pub work-init : goal.work-init
work-init g c =
    begin_at (keep_view c.args.keep) (g.S.Sources.entries c.args.links.now) c.len.ensures.inside c.args.named.now
    c.requires
    c.in_ok-walk.walk c.reach_all.new.self c.len.result c.new-walker.result c.len.ensures.value
    c.in_ok-walk.ensures.first c.in_ok-walk.ensures.waiting c.in_ok-reach_all.ensures c.new-walker.ensures

pub visit-requires : goal.visit-requires
visit-requires g c = record {
  place =
      placed (keep_view c.args.keep) (g.S.Sources.entries c.args.links.now) c.len.ensures.inside c.args.named.now
      c.requires
      c.work.walk c.next.new.self c.work.walker c.in-Some.place c.work.invariant c.in-Some.ensures.some.waiting;
  places =
      count_at (keep_view c.args.keep) (g.S.Sources.entries c.args.links.now) c.len.ensures.inside c.args.named.now
      c.requires
      c.work.walk c.next.new.self c.work.walker c.work.invariant c.in-Some.ensures.some.first;
}

pub work-smaller : goal.work-smaller
work-smaller g c =
    smaller_at (keep_view c.args.keep) (g.S.Sources.entries c.args.links.now) c.len.ensures.inside c.args.named.now
    c.requires
    c.work.walk c.next.new.self c.visit.new.self c.in-Some.place c.work.walker c.visit.new.walker c.work.invariant
    c.in-Some.ensures.some.first c.in-Some.ensures.some.waiting c.in_ok-visit.ensures

pub work-preserved : goal.work-preserved
work-preserved g c =
    visited_at (keep_view c.args.keep) (g.S.Sources.entries c.args.links.now) c.len.ensures.inside c.args.named.now
    c.requires
    c.work.walk c.next.new.self c.visit.new.self c.in-Some.place c.work.walker c.visit.new.walker c.work.invariant
    c.in-Some.ensures.some.first c.in-Some.ensures.some.waiting c.in_ok-visit.ensures

reached : goal.returns-clause-places
reached g c =
    finish_at (keep_view c.args.keep) (g.S.Sources.entries c.args.links.now) c.len.ensures.inside c.args.named.now
    c.requires
    c.work.walk c.next.new.self c.work.walker c.walk-2.inside.first.items c.steps.result c.work.invariant
    c.in_default.ensures.none.waiting c.in_default.ensures.none.none
    (ap (λ (f : Frontier). f.first) c.walk-2.view_is ∙ c.in_default.ensures.none.first) c.steps.ensures
    (omega arith)

pub returns-clause-places : goal.returns-clause-places
returns-clause-places g c = reached g c

pub returns-clause-paths : goal.returns-clause-paths
returns-clause-paths g c graph name are used =
    exactly (keep_view c.args.keep) graph (g.S.Sources.entries c.args.links.now) name are c.args.named.now
    (record { marks = c.walk-2.inside.first.items; steps = c.steps.result }) c.requires used (reached g c)
