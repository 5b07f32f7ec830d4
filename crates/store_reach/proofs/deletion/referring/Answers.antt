use Rattle.std.proofs.Common.{length}
use Rattle.std.proofs.lemmas.List.{length-map}
use Rattle.live.specs.Arguments.{row_view, rows_view}
use Rattle.store_reach.proofs.Deleted.{within}
use Rattle.store_reach.proofs.deletion.referring.Goals as goal

pub paths_at-requires : goal.paths_at-requires
paths_at-requires c =
    let rows = c.args.rows.now in
    within _ (length (rows_view rows)) (length rows) (length-map rows row_view) c.deref.result.now
    c.in_ok-deleted.deleted.items c.deref.ensures.value
    (c.in_ok-deleted.ensures.places (rows_view rows) c.requires.rise c.in_ok-graph.ensures)
