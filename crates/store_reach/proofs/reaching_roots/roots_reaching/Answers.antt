use Rattle.std.proofs.Common.{map, ap, ◌∙◌}
use Rattle.std.specs.Prelude.{filter}
use Rattle.std.proofs.lemmas.Result.{IfOk-weaker}
use Rattle.paths.specs.Root.{Root}
use Rattle.paths.specs.RootView.{root_view}
use Rattle.live.specs.Keeping.{keep_view}
use Rattle.live.specs.Reaching.{reaches_any}
use Rattle.model.specs.World.{roots_of}
use Rattle.tables_outline.specs.Rooted.{rooted}
use Rattle.store_reach.specs.Linked.{graph_in}
use Rattle.store_reach.proofs.WalksBack.{linked_graph, one_named}
use Rattle.store_reach.proofs.reaching_roots.roots_reaching.Goals as goal

pub returns : goal.returns
returns c =
    let keep = keep_view c.args.keep in
    let g = graph_in c.args.all.now.outline.now in
    let are = linked_graph c.args.all.now.outline.now c.in-Some.links.now c.in-Some.ensures in
    IfOk-weaker c.roots_found.result _ _
    (λ v e. e keep g c.from_ref.result.now are (c.in_ok-reaching.ensures.found g are)
    ∙ ap (filter (λ (r : Root). reaches_any keep g c.from_ref.result.now r.target))
    (ap (map root_view) c.deref.ensures.value ∙ c.args.all.now.listed)
    ∙ one_named keep g c.from_ref.result.now c.args.path.now (roots_of (rooted c.args.all.now.outline.now))
    c.from_ref.ensures.value)
    c.roots_found.ensures
