use Rattle.std.proofs.Common.{◌≡◌, ◌<◌, ℕ, length, map, refl, subst, sym, ap, ◌∙◌}
use Rattle.std.specs.Prelude.{All}
use Rattle.std.proofs.lemmas.List.{length-map}
use Rattle.std.proofs.lemmas.Result.{IfOk-weaker}
use Rattle.live.specs.Arguments.{root_view, roots_view, row_view, rows_view}
use Rattle.live.specs.Keeping.{keep_view}
use Rattle.live.specs.Live.{roots_that_reach}
use Rattle.live.specs.Numbering.{numbered_links, path_at, paths_of, root_at}
use Rattle.model.specs.World.{roots_of}
use Rattle.tables_outline.specs.Outline.{OutlineValue}
use Rattle.tables_outline.specs.Rooted.{rooted}
use Rattle.store_reach.specs.Linked.{graph_in, rows_in, valid_roots}
use Rattle.store_reach.proofs.Deleted.{within}
use Rattle.store_reach.proofs.Marked.{passed_rise}
use Rattle.store_reach.proofs.Places.{none_reach, valid_reach}
use Rattle.store_reach.proofs.Rising.{rows_rise}
use Rattle.store_reach.proofs.reaching_roots.roots_by_rows.Goals as goal

pub place_of-requires : goal.place_of-requires
place_of-requires c =
    passed_rise c.in_ok-graph.graph.outline.now (rows_view c.deref.result.now)
    (ap rows_view c.deref.ensures.value ∙ c.in_ok-graph.graph.all_rows)

pub returns-in_default : goal.returns-in_default
returns-in_default c =
    let keep = keep_view c.args.keep in
    let graph = c.in_ok-graph.graph in
    let o = graph.outline.now in
    ap roots_view c.new-in_default.ensures.items
    ∙ none_reach keep o (rows_view c.deref.result.now) c.args.path.now (roots_of (rooted o))
    (ap rows_view c.deref.ensures.value ∙ graph.all_rows) c.in_default.ensures.none
    ∙ ap (λ (x : OutlineValue). roots_that_reach keep (graph_in x) (roots_of (rooted x)) c.args.path.now)
    c.in_ok-graph.ensures

pub roots_of-requires-clause-place : goal.roots_of-requires-clause-place
roots_of-requires-clause-place c =
    let graph = c.in_ok-graph.graph in
    let rows = rows_in graph.outline.now in
    subst (λ (n : ℕ). c.in-Some.place < n)
    (ap length c.deref.ensures.value ∙ sym (length-map graph.rows.items row_view) ∙ ap length graph.all_rows
    ∙ sym (ap length graph.numbers ∙ length-map rows (λ r. numbered_links (paths_of rows) r.1)))
    c.in-Some.ensures.found.0

pub roots_of-requires-clause-targets : goal.roots_of-requires-clause-targets
roots_of-requires-clause-targets c =
    let graph = c.in_ok-graph.graph in
    let rows = rows_in graph.outline.now in
    subst (λ (n : ℕ). All (λ t. t < n) graph.targets)
    (sym (length-map graph.rows.items row_view) ∙ ap length graph.all_rows
    ∙ sym (ap length graph.numbers ∙ length-map rows (λ r. numbered_links (paths_of rows) r.1)))
    graph.inside

pub roots_at-requires : goal.roots_at-requires
roots_at-requires c =
    let graph = c.in_ok-graph.graph in
    let o = graph.outline.now in
    within _ (length (valid_roots o)) (length c.deref-2.result.now)
    (sym (ap length graph.valid) ∙ length-map graph.roots.items root_view ∙ ap length (sym c.deref-2.ensures.value))
    c.deref-3.result.now c.in_ok-places.places.items c.deref-3.ensures.value
    (c.in_ok-places.ensures.places (rows_in o) (valid_roots o) (rows_rise o) graph.numbers graph.aimed)

pub returns : goal.returns
returns c =
    let keep = keep_view c.args.keep in
    let graph = c.in_ok-graph.graph in
    let o = graph.outline.now in
    let at : path_at (rows_in o) c.in-Some.place ≡ c.args.path.now =
    ap (λ rows. path_at rows c.in-Some.place) (sym (ap rows_view c.deref.ensures.value ∙ graph.all_rows))
    ∙ c.in-Some.ensures.found.1 in
    let again = ap roots_view c.deref-2.ensures.value ∙ graph.valid in
    IfOk-weaker c.roots_at.result _ _
    (λ v e. e ∙ (λ i. map (root_at (again i)) (c.deref-3.ensures.value i))
    ∙ c.in_ok-places.ensures.roots (rows_in o) (valid_roots o) (rows_rise o) graph.numbers graph.aimed
    ∙ valid_reach keep o (rows_in o) (valid_roots o) (roots_of (rooted o)) c.args.path.now
    (path_at (rows_in o) c.in-Some.place) refl refl at
    ∙ ap (λ (x : OutlineValue). roots_that_reach keep (graph_in x) (roots_of (rooted x)) c.args.path.now)
    c.in_ok-graph.ensures)
    c.roots_at.ensures
