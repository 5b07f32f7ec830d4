use Rattle.std.proofs.Common.{◌∙◌, refl, length}
use Rattle.live.specs.Keeping.{keep_view}
use Rattle.live.proofs.Inward.{sources_inside, visited_all}
use Rattle.live.proofs.walk.Walk.visit.Goals as goal

pub reach_sources-requires : goal.reach_sources-requires
reach_sources-requires g c =
    sources_inside (g.S.Sources.entries c.args.links.now) (λ e. e.references) refl c.args.place
    c.references_to.result.now c.references_to.ensures (length c.args.self.now.first) c.requires.places

pub reach_sources-requires-2 : goal.reach_sources-requires-2
reach_sources-requires-2 g c =
    sources_inside (g.S.Sources.entries c.args.links.now) (λ e. e.outputs) refl c.args.place c.outputs_to.result.now
    c.outputs_to.ensures (length c.reach_sources.new.self.first)
    (c.in_ok-reach_sources.ensures.places ∙ c.requires.places)

pub reach_sources-requires-3 : goal.reach_sources-requires-3
reach_sources-requires-3 g c =
    sources_inside (g.S.Sources.entries c.args.links.now) (λ e. e.deriver) refl c.args.place c.derivers_to.result.now
    c.derivers_to.ensures (length c.reach_sources-2.new.self.first)
    (c.in_ok-reach_sources-2.ensures.places ∙ c.in_ok-reach_sources.ensures.places ∙ c.requires.places)

pub returns : goal.returns
returns g c = visited_all (keep_view c.args.keep) (g.S.Sources.entries c.args.links.now) c.args.place
    c.references_to.result.now c.outputs_to.result.now c.derivers_to.result.now c.references_to.ensures
    c.outputs_to.ensures c.derivers_to.ensures
    c.args.self.now c.reach_sources.new.self c.reach_sources-2.new.self c.reach_sources-3.new.self
    c.in_ok-reach_sources.ensures.reached c.in_ok-reach_sources-2.ensures.reached
    c.in_ok-reach_sources-3.ensures.reached
    c.args.walker.now c.count_place.new.self c.reach_sources.new.walker c.reach_sources-2.new.walker
    c.reach_sources-3.new.walker
    c.count_place.ensures c.in_ok-reach_sources.ensures.counted c.in_ok-reach_sources-2.ensures.counted
    c.in_ok-reach_sources-3.ensures.counted
