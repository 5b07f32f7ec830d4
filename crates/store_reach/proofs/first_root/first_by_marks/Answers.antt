use Rattle.std.proofs.Common.{◌≡◌, ◌<◌, Some, length, refl, sym, ap, ◌∙◌, arith}
use Rattle.std.proofs.lemmas.List.{length-map}
use Rattle.live.specs.Arguments.{root_view, row_view, rows_view}
use Rattle.live.specs.Keeping.{keep_view}
use Rattle.live.specs.Live.{first_root}
use Rattle.live.specs.Numbering.{root_at}
use Rattle.model.specs.World.{roots_of}
use Rattle.tables_outline.specs.Outline.{OutlineValue}
use Rattle.tables_outline.specs.Rooted.{rooted}
use Rattle.store_reach.specs.FirstRoot.{first_value}
use Rattle.store_reach.specs.Linked.{graph_in, rows_in, valid_roots}
use Rattle.store_reach.proofs.FirstLive.{all_marked, root_present}
use Rattle.store_reach.proofs.Marked.{passed_rise}
use Rattle.store_reach.proofs.Rising.{roots_rise}
use Rattle.store_reach.proofs.first_root.first_by_marks.Goals as goal

pub first_mark-requires-clause-rise : goal.first_mark-requires-clause-rise
first_mark-requires-clause-rise c =
    passed_rise c.in_ok-graph.graph.outline.now (rows_view c.deref.result.now)
    (ap rows_view c.deref.ensures.value ∙ c.in_ok-graph.graph.all_rows)

pub first_mark-requires-clause-marks : goal.first_mark-requires-clause-marks
first_mark-requires-clause-marks c =
    let graph = c.in_ok-graph.graph in
    c.in_ok-marks.ensures.exact.places ∙ sym (ap length graph.all_rows) ∙ length-map graph.rows.items row_view
    ∙ ap length (sym c.deref.ensures.value)

pub returns-in_default : goal.returns-in_default
returns-in_default c =
    let keep = keep_view c.args.keep in
    let graph = c.in_ok-graph.graph in
    let o = graph.outline.now in
    let marked =
    all_marked keep o (roots_of (rooted o)) (roots_rise o) (rows_in o) (valid_roots o) refl refl
    (rows_view c.deref.result.now) (ap rows_view c.deref.ensures.value ∙ graph.all_rows) c.in_ok-marks.marks
    c.in_ok-marks.ensures.exact in
    c.in_default.ensures.root (root_at (valid_roots o)) (first_root keep (graph_in o) (roots_of (rooted o))) marked
    ∙ ap (λ (x : OutlineValue). first_value (first_root keep (graph_in x) (roots_of (rooted x))) c.args.named.now)
    c.in_ok-graph.ensures

pub returns : goal.returns
returns c =
    let keep = keep_view c.args.keep in
    let graph = c.in_ok-graph.graph in
    let o = graph.outline.now in
    let marked =
    all_marked keep o (roots_of (rooted o)) (roots_rise o) (rows_in o) (valid_roots o) refl refl
    (rows_view c.deref.result.now) (ap rows_view c.deref.ensures.value ∙ graph.all_rows) c.in_ok-marks.marks
    c.in_ok-marks.ensures.exact in
    let inside : c.in-Some.place < length graph.roots.items =
    (let l = c.in-Some.ensures.inside in let n = c.in_ok-marks.ensures.roots in omega (arith, l, n)) in
    let present : root_at (valid_roots o) c.in-Some.place ≡ root_view c.index.result.now =
    ap (λ rs. root_at rs c.in-Some.place) (sym graph.valid)
    ∙ root_present graph.roots.items c.in-Some.place c.index.result.now inside c.index.ensures in
    ap Some (sym present)
    ∙ c.in-Some.ensures.root (root_at (valid_roots o)) (first_root keep (graph_in o) (roots_of (rooted o))) marked
    ∙ ap (λ (x : OutlineValue). first_value (first_root keep (graph_in x) (roots_of (rooted x))) c.args.named.now)
    c.in_ok-graph.ensures
