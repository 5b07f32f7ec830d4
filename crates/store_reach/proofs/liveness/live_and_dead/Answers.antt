use Rattle.std.proofs.Common.{true, false, map, ap, ◌∙◌}
use Rattle.std.specs.FinMap as finite
use Rattle.live.specs.Arguments.{rows_view}
use Rattle.tables_outline.specs.Outline.{OutlineValue}
use Rattle.store_reach.specs.Linked.{lives_in, rows_in}
use Rattle.store_reach.proofs.Marked.{as_many, chosen_reported}
use Rattle.store_reach.proofs.Reported.{live_reported, dead_reported}
use Rattle.store_reach.proofs.liveness.live_and_dead.Goals as goal

pub chosen-requires : goal.chosen-requires
chosen-requires c =
    let graph = c.in_ok-graph.graph in
    as_many c.args.config.now graph.outline.now c.deref.result.now
    (ap rows_view c.deref.ensures.value ∙ graph.all_rows) c.deref-2.result.now
    (c.deref-2.ensures.value ∙ c.in_ok-lives.ensures)

pub chosen-requires-2 : goal.chosen-requires-2
chosen-requires-2 c =
    let graph = c.in_ok-graph.graph in
    as_many c.args.config.now graph.outline.now c.deref-3.result.now
    (ap rows_view c.deref-3.ensures.value ∙ graph.all_rows) c.deref-4.result.now
    (c.deref-4.ensures.value ∙ c.in_ok-lives.ensures)

pub returns-clause-live : goal.returns-clause-live
returns-clause-live c w reported =
    let s = c.args.config.now in
    let o = c.args.outline.now in
    let is = c.in_ok-graph.ensures ∙ c.in_ok-all.ensures in
    chosen_reported s o (rows_view c.deref.result.now)
    (ap rows_view c.deref.ensures.value ∙ c.in_ok-graph.graph.all_rows ∙ ap rows_in is) c.deref-2.result.now
    (c.deref-2.ensures.value ∙ c.in_ok-lives.ensures
    ∙ ap (λ (o : OutlineValue). map (lives_in s o) (finite.keys o.objects)) is) true c.in_ok-live.live.items
    c.in_ok-live.ensures
    ∙ live_reported s w o reported

pub returns-clause-dead : goal.returns-clause-dead
returns-clause-dead c w reported =
    let s = c.args.config.now in
    let o = c.args.outline.now in
    let is = c.in_ok-graph.ensures ∙ c.in_ok-all.ensures in
    chosen_reported s o (rows_view c.deref-3.result.now)
    (ap rows_view c.deref-3.ensures.value ∙ c.in_ok-graph.graph.all_rows ∙ ap rows_in is) c.deref-4.result.now
    (c.deref-4.ensures.value ∙ c.in_ok-lives.ensures
    ∙ ap (λ (o : OutlineValue). map (lives_in s o) (finite.keys o.objects)) is) false c.in_ok-dead.dead.items
    c.in_ok-dead.ensures
    ∙ dead_reported s w o reported
