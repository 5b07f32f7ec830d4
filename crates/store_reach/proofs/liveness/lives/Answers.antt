use Rattle.std.proofs.Common.{◌≡◌, length, refl, sym, ap, ◌∙◌, arith}
use Rattle.std.proofs.lemmas.List.{length-map}
use Rattle.std.proofs.lemmas.Result.{IfOk-weaker}
use Rattle.live.specs.Arguments.{row_view}
use Rattle.live.specs.Keeping.{keep_view}
use Rattle.store_reach.specs.Linked.{rows_in, valid_roots}
use Rattle.store_reach.proofs.Marked.{lives_marked}
use Rattle.store_reach.proofs.liveness.lives.Goals as goal

pub returns : goal.returns
returns c =
    let graph = c.args.graph.now in
    let o = graph.outline.now in
    let items = sym (length-map graph.rows.items row_view) ∙ ap length graph.all_rows in
    let count : c.len.result ≡ length (rows_in o) = omega (arith, c.len.ensures, graph.rows.ok.0, items) in
    IfOk-weaker c.flags.result _ _
    (λ v e. e ∙ lives_marked o (rows_in o) refl (valid_roots o) refl c.args.config.now (keep_view c.keep_of.result)
    c.in_ok-marks.marks _ c.keep_of.ensures c.in_ok-marks.ensures.exact count)
    c.flags.ensures
