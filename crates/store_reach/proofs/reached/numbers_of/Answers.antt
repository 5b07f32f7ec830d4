use Rattle.std.proofs.Common.{◌+◌, ◌<◌, take, length, sym, subst, arith}
use Rattle.store_reach.specs.Reached.{AreNumbersOf}
use Rattle.store_reach.proofs.WalksBack.{none_numbered, one_numbered}
use Rattle.store_reach.proofs.reached.numbers_of.Goals as goal

pub loop-path-preserved : goal.loop-path-preserved
loop-path-preserved c =
    let i = c.loop-path.path-index in
    let inside : i < length c.args.named.now = (let t = c.loop-path-test.true in omega arith) in
    let found = c.in-Some.ensures.some in
    subst (AreNumbersOf c.args.links.now (take (i + 1) c.args.named.now)) (sym c.in_ok-push.ensures.items)
    (one_numbered c.args.links.now c.args.named.now c.loop-path.numbers.items i c.path-item.result inside c.path-item.is
    c.loop-path.invariant c.in-Some.number found.2 found.1 found.3)

pub loop-path-preserved-in_default : goal.loop-path-preserved-in_default
loop-path-preserved-in_default c =
    let inside : c.loop-path.path-index < length c.args.named.now = (let t = c.loop-path-test.true in omega arith) in
    none_numbered c.args.links.now c.args.named.now c.loop-path.numbers.items c.loop-path.path-index c.path-item.result
    inside c.path-item.is c.loop-path.invariant c.in_default.ensures.none
