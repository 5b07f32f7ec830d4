use Rattle.std.proofs.Common.{ap, ◌∙◌}
use Rattle.std.specs.Prelude.{filter}
use Rattle.std.proofs.lemmas.Result.{IfOk-weaker}
use Rattle.live.specs.Graph.{references_only}
use Rattle.live.specs.Reach.{refers_to_any}
use Rattle.store_reach.specs.Linked.{graph_in}
use Rattle.store_reach.proofs.Deleted.{deleted_reported}
use Rattle.store_reach.proofs.PathsFound.{graph_keys}
use Rattle.store_reach.proofs.WalksBack.{linked_graph}
use Rattle.store_reach.proofs.deletion.deleted_paths.Goals as goal

pub returns-in_default : goal.returns-in_default
returns-in_default c =
    IfOk-weaker c.deleted_by_rows.result _ _
    (λ v e w reported. e ∙ deleted_reported c.args.outline.now c.args.named.now w reported) c.deleted_by_rows.ensures

pub returns : goal.returns
returns c =
    let o = c.args.outline.now in
    let are = linked_graph o c.in-Some.links.now c.in-Some.ensures in
    IfOk-weaker c.paths_found.result _ _
    (λ v e w reported. e references_only (graph_in o) c.args.named.now are
    (c.in_ok-reaching.ensures.found (graph_in o) are)
    ∙ ap (filter (refers_to_any (graph_in o) c.args.named.now)) (graph_keys o)
    ∙ deleted_reported o c.args.named.now w reported)
    c.paths_found.ensures
