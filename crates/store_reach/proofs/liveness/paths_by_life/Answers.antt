use Rattle.std.proofs.Common.{map, ap, ◌∙◌}
use Rattle.std.specs.FinMap as finite
use Rattle.std.proofs.lemmas.Result.{IfOk-weaker}
use Rattle.live.specs.Arguments.{rows_view}
use Rattle.tables_outline.specs.Outline.{OutlineValue}
use Rattle.store_reach.specs.Linked.{lives_in, rows_in}
use Rattle.store_reach.proofs.Marked.{as_many, chosen_reported}
use Rattle.store_reach.proofs.liveness.paths_by_life.Goals as goal

pub chosen-requires : goal.chosen-requires
chosen-requires c =
    let graph = c.in_ok-graph.graph in
    as_many c.args.config.now graph.outline.now c.deref.result.now
    (ap rows_view c.deref.ensures.value ∙ graph.all_rows) c.deref-2.result.now
    (c.deref-2.ensures.value ∙ c.in_ok-lives.ensures)

pub returns : goal.returns
returns c =
    let s = c.args.config.now in
    let is = c.in_ok-graph.ensures ∙ c.in_ok-all.ensures in
    IfOk-weaker c.chosen.result _ _
    (λ v choose. chosen_reported s c.args.outline.now (rows_view c.deref.result.now)
    (ap rows_view c.deref.ensures.value ∙ c.in_ok-graph.graph.all_rows ∙ ap rows_in is) c.deref-2.result.now
    (c.deref-2.ensures.value ∙ c.in_ok-lives.ensures
    ∙ ap (λ (o : OutlineValue). map (lives_in s o) (finite.keys o.objects)) is) c.args.wanted v.items choose)
    c.chosen.ensures
