use Rattle.std.proofs.Common.{◌≡◌, ◌<◌, ℕ, List, length, map, refl, sym, ap, subst, ◌∙◌}
use Rattle.std.specs.List.{slice_index}
use Rattle.std.proofs.lemmas.List.{length-map}
use Rattle.std.proofs.lemmas.Result.{IfOk-weaker}
use Rattle.live.specs.Arguments.{row_view, rows_view}
use Rattle.live.specs.Keeping.{keep_view}
use Rattle.live.specs.Numbering.{Row, numbered_links, path_at, paths_of}
use Rattle.live.specs.declared.numbered.rows.Row.{Row as Handed}
use Rattle.store_reach.specs.Linked.{rows_in, valid_roots}
use Rattle.store_reach.specs.Sizes.{size_in}
use Rattle.store_reach.proofs.Deleted.{within}
use Rattle.store_reach.proofs.Limited.{limited_reported, sized}
use Rattle.store_reach.proofs.Rising.{rows_rise}
use Rattle.store_reach.proofs.collection.limited_paths.Goals as goal

pub limited-requires-clause-marks : goal.limited-requires-clause-marks
limited-requires-clause-marks c =
    let rows = rows_in c.in_ok-graph.graph.outline.now in
    c.in_ok-marks.ensures.exact.places
    ∙ sym (ap length c.in_ok-graph.graph.numbers ∙ length-map rows (λ r. numbered_links (paths_of rows) r.1))

pub limited-requires-clause-sizes : goal.limited-requires-clause-sizes
limited-requires-clause-sizes c =
    let graph = c.in_ok-graph.graph in
    let o = graph.outline.now in
    let rows = rows_in o in
    ap length (c.deref-2.ensures.value ∙ c.in_ok-sizes.ensures)
    ∙ length-map c.deref.result.now (λ (r : Handed). size_in o r.path.now)
    ∙ ap length c.deref.ensures.value ∙ sym (length-map graph.rows.items row_view) ∙ ap length graph.all_rows
    ∙ sym (ap length graph.numbers ∙ length-map rows (λ r. numbered_links (paths_of rows) r.1))

pub paths_at-requires : goal.paths_at-requires
paths_at-requires c =
    let graph = c.in_ok-graph.graph in
    let o = graph.outline.now in
    let at_places : map (λ (r : Handed). size_in o r.path.now) graph.rows.items ≡ c.deref-2.result.now =
    sym (c.deref-2.ensures.value ∙ c.in_ok-sizes.ensures
    ∙ ap (map (λ (r : Handed). size_in o r.path.now)) c.deref.ensures.value) in
    let each : (i : ℕ) → i < length (rows_in o)
    → size_in o (path_at (rows_in o) i) ≡ slice_index c.deref-2.result.now i =
    subst (λ (rows : List Row). (i : ℕ) → i < length rows
    → size_in o (path_at rows i) ≡ slice_index c.deref-2.result.now i) graph.all_rows
    (λ i h. sized (size_in o) graph.rows.items i h ∙ ap (λ (ns : List ℕ). slice_index ns i) at_places) in
    within _ (length (rows_in o)) (length c.deref-3.result.now)
    (sym (ap length graph.all_rows) ∙ length-map graph.rows.items row_view ∙ ap length (sym c.deref-3.ensures.value))
    c.deref-4.result.now c.in_ok-places.places.items c.deref-4.ensures.value
    (c.in_ok-places.ensures.places (keep_view c.keep_of.result) (rows_in o) (valid_roots o) (size_in o) (rows_rise o)
    graph.numbers c.in_ok-marks.ensures.exact each)

pub returns : goal.returns
returns c =
    let graph = c.in_ok-graph.graph in
    let o = graph.outline.now in
    let at_places : map (λ (r : Handed). size_in o r.path.now) graph.rows.items ≡ c.deref-2.result.now =
    sym (c.deref-2.ensures.value ∙ c.in_ok-sizes.ensures
    ∙ ap (map (λ (r : Handed). size_in o r.path.now)) c.deref.ensures.value) in
    let each : (i : ℕ) → i < length (rows_in o)
    → size_in o (path_at (rows_in o) i) ≡ slice_index c.deref-2.result.now i =
    subst (λ (rows : List Row). (i : ℕ) → i < length rows
    → size_in o (path_at rows i) ≡ slice_index c.deref-2.result.now i) graph.all_rows
    (λ i h. sized (size_in o) graph.rows.items i h ∙ ap (λ (ns : List ℕ). slice_index ns i) at_places) in
    let again = ap rows_view c.deref-3.ensures.value ∙ graph.all_rows in
    IfOk-weaker c.paths_at.result _ _
    (λ v e w reported. e ∙ (λ i. map (path_at (again i)) (c.deref-4.ensures.value i))
    ∙ c.in_ok-places.ensures.paths (keep_view c.keep_of.result) (rows_in o) (valid_roots o) (size_in o) (rows_rise o)
    graph.numbers c.in_ok-marks.ensures.exact each
    ∙ limited_reported c.args.config.now o (keep_view c.keep_of.result) (rows_in o) (valid_roots o) c.keep_of.ensures
    refl refl w (reported ∙ sym (c.in_ok-graph.ensures ∙ c.in_ok-all.ensures)) c.args.limit)
    c.paths_at.ensures
