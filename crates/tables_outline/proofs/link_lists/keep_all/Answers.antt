use Rattle.std.proofs.Common.{map, arith}
use Rattle.std.proofs.lemmas.List.{length-map}
use Rattle.tables_outline.proofs.Listed.{kept_all, kept_begin, kept_more}
use Rattle.tables_outline.proofs.link_lists.keep_all.Goals as goal

pub loop-number-init : goal.loop-number-init
loop-number-init c = kept_begin c.args.flags.now (map (λ v. v.items) c.args.lists.now.items)

pub loop-number-preserved : goal.loop-number-preserved
loop-number-preserved c =
    kept_more (λ v. v.items) c.args.flags.now c.loop-number.number (map (λ v. v.items) c.args.lists.now.items)
    c.loop-number.lists.items c.index_mut.result.now c.keep_flagged.new.list
    (let t = c.loop-number-test.true in let e = c.len-number-end.ensures in let k = c.loop-number.invariant.count in
    let m = length-map c.loop-number.lists.items (λ v. v.items) in
    let o = length-map c.args.lists.now.items (λ v. v.items) in let w = c.args.lists.now.ok.0 in omega arith)
    c.index_mut.ensures.value c.keep_flagged.ensures c.loop-number.invariant

pub returns : goal.returns
returns c =
    kept_all c.args.flags.now c.loop-number.number (map (λ v. v.items) c.args.lists.now.items)
    (map (λ v. v.items) c.loop-number.lists.items)
    (let t = c.loop-number-test.false in let e = c.len-number-end.ensures in
    let o = length-map c.args.lists.now.items (λ v. v.items) in let w = c.args.lists.now.ok.0 in omega arith)
    c.loop-number.invariant
