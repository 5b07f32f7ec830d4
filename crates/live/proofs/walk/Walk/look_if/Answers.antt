use Rattle.std.proofs.Common.{◌≡◌, ◌∙◌, ap, arith}
use Rattle.live.specs.Places.{entries_at, held}
use Rattle.live.specs.Marks.{reached}
use Rattle.live.proofs.Looks.{looked_all, looked_more, looked_none}
use Rattle.live.proofs.walk.Walk.look_if.Goals as goal

pub loop-entry-init : goal.loop-entry-init
loop-entry-init c =
    looked_none c.args.mark.none c.args.mark.root (held (entries_at c.args.graph.now c.args.range.place))
    c.args.range.from c.args.self.now c.args.walker.now

pub loop-entry-preserved : goal.loop-entry-preserved
loop-entry-preserved c =
    looked_more c.args.mark.none c.args.mark.root (held (entries_at c.args.graph.now c.args.range.place))
    c.args.range.from c.loop-entry.entry c.args.self.now c.loop-entry.self c.args.walker.now c.loop-entry.walker
    c.loop-entry.auto.entry (omega arith) c.loop-entry.invariant c.reach.new.self
    (c.in_ok-reach.ensures
    ∙ ap (reached c.args.mark.none c.args.mark.root c.loop-entry.self) c.entry-target.ensures.read.value)
    c.entry-target.new.self c.entry-target.ensures.read.counted

pub returns-clause-reached : goal.returns-clause-reached
returns-clause-reached c =
    let last : c.loop-entry.entry ≡ c.args.range.to =
    (let t = c.loop-entry-test.false in let e = c.loop-entry.auto.entry-end c.requires.from in omega arith) in
    (looked_all c.args.mark.none c.args.mark.root (held (entries_at c.args.graph.now c.args.range.place))
    c.args.range.from c.loop-entry.entry c.args.range.to c.args.self.now c.loop-entry.self c.args.walker.now
    c.loop-entry.walker
    c.args.counts c.if-not-counts.false last c.requires.to c.loop-entry.invariant).0

pub returns-clause-counted : goal.returns-clause-counted
returns-clause-counted c =
    let last : c.loop-entry.entry ≡ c.args.range.to =
    (let t = c.loop-entry-test.false in let e = c.loop-entry.auto.entry-end c.requires.from in omega arith) in
    (looked_all c.args.mark.none c.args.mark.root (held (entries_at c.args.graph.now c.args.range.place))
    c.args.range.from c.loop-entry.entry c.args.range.to c.args.self.now c.loop-entry.self c.args.walker.now
    c.loop-entry.walker
    c.args.counts c.if-not-counts.false last c.requires.to c.loop-entry.invariant).1
