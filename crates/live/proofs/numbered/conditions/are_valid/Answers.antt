use Rattle.std.proofs.Common.{arith}
use Rattle.std.proofs.lemmas.List.{length-map}
use Rattle.live.specs.Arguments.{root_view, rows_view}
use Rattle.live.proofs.Conditions.{valid_more}
use Rattle.live.proofs.numbered.conditions.are_valid.Goals as goal

pub loop-root-preserved : goal.loop-root-preserved
loop-root-preserved c =
    valid_more (rows_view c.args.rows.now) (c.do_rise.ensures c.if-not-do_rise.false) c.args.roots.now
    c.loop-root.root-index c.root-item.result c.place_of.result
    c.loop-root-test.true c.root-item.is c.place_of.ensures.place c.is_none.result c.is_none.ensures c.if-is_none.false
    c.loop-root.invariant

pub returns : goal.returns
returns c = λ t. record {
  rows = c.do_rise.ensures c.if-not-do_rise.false;
  targets =
      λ k h. c.loop-root.invariant.valid k
      (let e = c.loop-root-test.false in let n = length-map c.args.roots.now root_view in omega arith);
}
