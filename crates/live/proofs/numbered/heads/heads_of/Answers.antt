use Rattle.std.proofs.Common.{◌∙◌, ◌+◌, ap, sym, subst, arith, List, ℕ}
use Rattle.live.specs.Arguments.{rows_view}
use Rattle.live.specs.Numbering.{paths_of}
use Rattle.live.specs.Heads.{IsBytes, head_of}
use Rattle.live.proofs.Headed.{HeadsBelow, heads_all, heads_more, path_of_row, rows_count}
use Rattle.live.proofs.numbered.heads.heads_of.Goals as goal

pub loop-row-preserved : goal.loop-row-preserved
loop-row-preserved c =
    let at = path_of_row c.args.rows.now c.loop-row.row-index c.row-item.result c.loop-row-test.true c.row-item.is in
    subst (λ (xs : List ℕ). HeadsBelow (paths_of (rows_view c.args.rows.now)) (c.loop-row.row-index + 1) xs)
    (sym c.in_ok-push.ensures.items)
    (heads_more (paths_of (rows_view c.args.rows.now)) c.loop-row.row-index c.loop-row.heads.items c.head_of.result
    c.loop-row.invariant
    (c.head_of.ensures.value ∙ ap head_of at) (subst IsBytes at c.head_of.ensures.bytes))

pub returns : goal.returns
returns c =
    heads_all (paths_of (rows_view c.args.rows.now)) c.loop-row.row-index c.loop-row.heads.items
    (let n = rows_count c.args.rows.now in let t = c.loop-row-test.false in let e = c.loop-row.auto.row-index-end in
    omega arith) c.loop-row.invariant
