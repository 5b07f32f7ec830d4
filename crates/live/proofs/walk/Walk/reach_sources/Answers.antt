use Rattle.std.proofs.Common.{◌≡◌, ◌∙◌, ap, arith, length}
use Rattle.live.specs.Marks.{reached}
use Rattle.live.proofs.Looks.{looked_more, looked_none, looked_whole}
use Rattle.live.proofs.walk.Walk.reach_sources.Goals as goal

pub loop-index-init : goal.loop-index-init
loop-index-init c = looked_none 1 0 c.args.sources.now 0 c.args.self.now c.args.walker.now

pub reach-requires : goal.reach-requires
reach-requires c =
    let a = c.requires c.loop-index.index 0 (omega arith) in
    let v = c.read-source.ensures.value in
    let p = c.loop-index.invariant.places in
    omega arith

pub loop-index-preserved : goal.loop-index-preserved
loop-index-preserved c =
    looked_more 1 0 c.args.sources.now 0 c.loop-index.index c.args.self.now c.loop-index.self c.args.walker.now
    c.loop-index.walker
    (omega arith) (omega arith) c.loop-index.invariant c.reach.new.self
    (c.in_ok-reach.ensures ∙ ap (reached 1 0 c.loop-index.self) c.read-source.ensures.value)
    c.read-source.new.self c.read-source.ensures.counted

pub returns-clause-reached : goal.returns-clause-reached
returns-clause-reached c =
    let last : c.loop-index.index ≡ length c.args.sources.now =
    (let t = c.loop-index-test.false in let e = c.loop-index.auto.index-end in omega arith) in
    (looked_whole 1 0 c.args.sources.now c.loop-index.index c.args.self.now c.loop-index.self c.args.walker.now
    c.loop-index.walker c.args.counts c.if-not-counts.false last c.loop-index.invariant).0

pub returns-clause-counted : goal.returns-clause-counted
returns-clause-counted c =
    let last : c.loop-index.index ≡ length c.args.sources.now =
    (let t = c.loop-index-test.false in let e = c.loop-index.auto.index-end in omega arith) in
    (looked_whole 1 0 c.args.sources.now c.loop-index.index c.args.self.now c.loop-index.self c.args.walker.now
    c.loop-index.walker c.args.counts c.if-not-counts.false last c.loop-index.invariant).1
