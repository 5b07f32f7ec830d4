use Rattle.std.proofs.Common.{◌<◌, List, [], ◌∷◌, ◌++◌, length, get_or, sym, ap₂, ◌∙◌, arith}
use Rattle.live.specs.Arguments.{rows_view}
use Rattle.live.specs.Numbering.{path_at}
use Rattle.model.specs.World.{Path}
use Rattle.store_reach.proofs.Deleted.{consumed_more}
use Rattle.store_reach.proofs.Marked.{row_path}
use Rattle.store_reach.proofs.deletion.paths_at.Goals as goal

pub loop-place-preserved : goal.loop-place-preserved
loop-place-preserved c =
    let rows = c.args.rows.now in
    let i = c.loop-place.place-index in
    let inside : i < length c.args.places.now = (let t = c.loop-place-test.true in omega arith) in
    c.in_ok-push.ensures.items
    ∙ ap₂ (λ (xs : List Path) (p : Path). xs ++ p ∷ []) c.loop-place.invariant
    (c.in_ok-clone.ensures.cases ∙ sym
    (row_path rows (get_or c.args.places.now i 0) (c.requires i 0 inside) c.index-rows-place.result))
    ∙ consumed_more (path_at (rows_view rows)) c.args.places.now i inside
