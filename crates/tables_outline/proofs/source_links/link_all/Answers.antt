use Rattle.std.proofs.Common.{List, [], ◌∷◌, take, subst, sym, arith}
use Rattle.live.specs.Graph.{Path}
use Rattle.tables_outline.specs.Links.{AreLinked}
use Rattle.tables_outline.proofs.Held.{link_more, link_none, ready_still}
use Rattle.tables_outline.proofs.TakenLinks.{take_all, take_item}
use Rattle.tables_outline.proofs.source_links.link_all.Goals as goal

pub loop-target-init : goal.loop-target-init
loop-target-init c ready = link_none c.args.names.now c.args.lists.now c.args.source ready.inside

pub loop-target-preserved : goal.loop-target-preserved
loop-target-preserved c ready =
    let i = c.loop-target.target-index in
    let so_far = c.loop-target.invariant ready in
    let more = take_item c.args.targets.now i c.target-item.result c.loop-target-test.true c.target-item.is in
    subst (λ (ts : List Path). AreLinked c.args.names.now c.link.new.names c.args.lists.now c.link.new.lists
    c.args.source ts) (sym more)
    (link_more c.args.names.now c.loop-target.names c.link.new.names c.args.lists.now c.loop-target.lists
    c.link.new.lists c.args.source (take i c.args.targets.now) (c.target-item.result ∷ []) so_far
    (c.in_ok-link.ensures (ready_still c.args.names.now c.loop-target.names c.args.lists.now c.loop-target.lists
    c.args.source (take i c.args.targets.now) ready so_far)))

pub returns : goal.returns
returns c ready =
    let all =
    take_all c.args.targets.now c.loop-target.target-index (let t = c.loop-target-test.false in omega arith) in
    subst (λ (ts : List Path). AreLinked c.args.names.now c.loop-target.names c.args.lists.now c.loop-target.lists
    c.args.source ts) all (c.loop-target.invariant ready)
