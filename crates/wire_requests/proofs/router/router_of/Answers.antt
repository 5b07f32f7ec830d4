use Rattle.std.proofs.Common.{[], take, subst, sym}
use Rattle.std.specs.Prelude.{map}
use Rattle.wire_requests.specs.Rows.{AreRows, row_of, text_of}
use Rattle.wire_requests.proofs.Conflicts.{can_at, rows_more}
use Rattle.wire_requests.proofs.router.router_of.Goals as goal

pub add-requires : goal.add-requires
add-requires c = (
  map row_of (map text_of (take c.loop-row.row-index c.args.rows.now)),
  c.loop-row.invariant,
  can_at [] c.args.rows.now c.loop-row.row-index _ c.requires c.loop-row-test.true,
)

pub loop-row-preserved : goal.loop-row-preserved
loop-row-preserved c =
    let more =
    c.in_ok-add.ensures (map row_of (map text_of (take c.loop-row.row-index c.args.rows.now)))
    c.loop-row.invariant in
    subst (λ t. AreRows c.add.new.router t)
    (sym (rows_more c.args.rows.now c.loop-row.row-index _ c.loop-row-test.true)) more
