use Rattle.std.proofs.Common.{ap, ◌∙◌}
use Rattle.std.proofs.lemmas.Result.{IfOk-weaker}
use Rattle.live.specs.Arguments.{rows_view}
use Rattle.store_reach.proofs.Deleted.{deleted_in}
use Rattle.store_reach.proofs.Marked.{passed_rise}
use Rattle.store_reach.proofs.deletion.deleted_by_rows.Goals as goal

pub places-requires : goal.places-requires
places-requires c =
    passed_rise c.args.outline.now (rows_view c.deref.result.now)
    (ap rows_view c.deref.ensures.value ∙ c.in_ok-rows.ensures)

pub referring-requires-clause-rise : goal.referring-requires-clause-rise
referring-requires-clause-rise c =
    passed_rise c.args.outline.now (rows_view c.deref-2.result.now)
    (ap rows_view c.deref-2.ensures.value ∙ c.in_ok-rows.ensures)

pub returns : goal.returns
returns c =
    IfOk-weaker c.referring.result _ _
    (λ v e. e ∙ deleted_in c.args.outline.now (rows_view c.deref.result.now) (rows_view c.deref-2.result.now)
    (ap rows_view c.deref.ensures.value ∙ c.in_ok-rows.ensures)
    (ap rows_view c.deref-2.ensures.value ∙ c.in_ok-rows.ensures)
    c.in_ok-places.places.items c.deref-3.result.now c.deref-3.ensures.value c.args.named.now
    c.in_ok-places.ensures.those)
    c.referring.ensures
