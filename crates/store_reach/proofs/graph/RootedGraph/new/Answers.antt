use Rattle.std.proofs.Common.{map, ap, ◌∙◌}
use Rattle.std.specs.Prelude.{filter}
use Rattle.live.specs.Arguments.{roots_view, rows_view}
use Rattle.model.specs.World.{roots_of}
use Rattle.paths.specs.RootView.{root_view}
use Rattle.tables_outline.specs.Rooted.{rooted}
use Rattle.store_reach.proofs.Marked.{passed_rise, valid_aimed}
use Rattle.store_reach.proofs.Valid.{aims_well}
use Rattle.store_reach.proofs.graph.RootedGraph.new.Goals as goal

pub new-requires : goal.new-requires
new-requires c =
    passed_rise c.args.all.now.outline.now (rows_view c.deref-2.result.now)
    (ap rows_view c.deref-2.ensures.value ∙ c.in_ok-rows.ensures)

pub new-requires-2 : goal.new-requires-2
new-requires-2 c =
    let all = c.args.all.now in
    let o = all.outline.now in
    valid_aimed o (rows_view c.deref-3.result.now) (ap rows_view c.deref-3.ensures.value ∙ c.in_ok-rows.ensures)
    (roots_of (rooted o)) (roots_view c.deref-4.result.now)
    (ap roots_view c.deref-4.ensures.value ∙ c.in_ok-roots.ensures
    ∙ ap (filter (aims_well o)) (ap (map root_view) c.deref.ensures.value ∙ all.listed))
