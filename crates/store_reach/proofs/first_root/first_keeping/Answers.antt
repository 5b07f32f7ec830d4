use Rattle.std.proofs.Common.{map, option_map, sym, ap, ◌∙◌, arith}
use Rattle.std.specs.Prelude.{filter}
use Rattle.std.proofs.lemmas.Option.{slice_get-map}
use Rattle.paths.specs.Root.{Root}
use Rattle.paths.specs.RootView.{root_view as listed_view}
use Rattle.live.specs.Arguments.{root_view, roots_view}
use Rattle.live.specs.Keeping.{keep_view}
use Rattle.live.specs.Reaching.{reaches_any}
use Rattle.model.specs.World.{roots_of}
use Rattle.tables_outline.specs.Rooted.{rooted}
use Rattle.store_reach.specs.Linked.{graph_in}
use Rattle.store_reach.proofs.FirstLive.{none_kept, one_kept}
use Rattle.store_reach.proofs.Rising.{roots_rise}
use Rattle.store_reach.proofs.WalksBack.{linked_graph}
use Rattle.store_reach.proofs.first_root.first_keeping.Goals as goal

pub returns-in_default-first : goal.returns-in_default-first
returns-in_default-first c =
    let keep = keep_view c.args.keep in
    let g = graph_in c.args.all.now.outline.now in
    let are = linked_graph c.args.all.now.outline.now c.in-Some.links.now c.in-Some.ensures in
    none_kept keep g (roots_of (rooted c.args.all.now.outline.now)) (roots_rise c.args.all.now.outline.now)
    c.args.named.now
    (roots_view c.deref-2.result.now)
    (ap roots_view c.deref-2.ensures.value
    ∙ c.in_ok-found.ensures keep g c.args.named.now are (c.in_ok-reaching.ensures.found g are)
    ∙ ap (filter (λ (r : Root). reaches_any keep g c.args.named.now r.target))
    (ap (map listed_view) c.deref.ensures.value ∙ c.args.all.now.listed))
    (slice_get-map root_view c.deref-2.result.now 0 ∙ ap (option_map root_view) (sym c.in_default-first.ensures.value))

pub returns : goal.returns
returns c =
    let keep = keep_view c.args.keep in
    let g = graph_in c.args.all.now.outline.now in
    let are = linked_graph c.args.all.now.outline.now c.in-Some.links.now c.in-Some.ensures in
    one_kept keep g (roots_of (rooted c.args.all.now.outline.now)) (roots_rise c.args.all.now.outline.now)
    c.args.named.now
    (roots_view c.deref-2.result.now)
    (ap roots_view c.deref-2.ensures.value
    ∙ c.in_ok-found.ensures keep g c.args.named.now are (c.in_ok-reaching.ensures.found g are)
    ∙ ap (filter (λ (r : Root). reaches_any keep g c.args.named.now r.target))
    (ap (map listed_view) c.deref.ensures.value ∙ c.args.all.now.listed))
    (omega arith) (root_view c.in-Some-first.root.now)
    (slice_get-map root_view c.deref-2.result.now 0 ∙ ap (option_map root_view) (sym c.in-Some-first.ensures.value))
