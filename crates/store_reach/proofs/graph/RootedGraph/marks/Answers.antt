use Rattle.std.proofs.Common.{refl}
use Rattle.std.proofs.lemmas.Result.{IfOk-weaker}
use Rattle.model.specs.World.{roots_of}
use Rattle.tables_outline.specs.Rooted.{rooted}
use Rattle.store_reach.specs.Linked.{rows_in, valid_roots}
use Rattle.store_reach.proofs.Marked.{valid_rise}
use Rattle.store_reach.proofs.Rising.{roots_rise, rows_rise}
use Rattle.store_reach.proofs.graph.RootedGraph.marks.Goals as goal

pub returns-clause-exact : goal.returns-clause-exact
returns-clause-exact c =
    let graph = c.args.self.now in
    let o = graph.outline.now in
    IfOk-weaker c.mark.result _ _
    (λ m exact. exact (rows_in o) (valid_roots o) (rows_rise o)
    (valid_rise o (rows_in o) refl (roots_of (rooted o)) (valid_roots o) refl (roots_rise o)) graph.numbers
    graph.aimed)
    c.mark.ensures.paths
