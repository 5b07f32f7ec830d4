use Rattle.std.proofs.Common.{List, [], ◌∷◌, take, subst, sym, arith}
use Rattle.live.specs.Graph.{Path}
use Rattle.tables_outline.specs.Links.{AreUnlinked}
use Rattle.tables_outline.proofs.Held.{unlink_more, unlink_none}
use Rattle.tables_outline.proofs.TakenLinks.{take_all, take_item}
use Rattle.tables_outline.proofs.source_links.unlink_all.Goals as goal

pub loop-target-init : goal.loop-target-init
loop-target-init c = unlink_none c.args.names.now c.args.lists.now c.args.source

pub loop-target-preserved : goal.loop-target-preserved
loop-target-preserved c =
    let i = c.loop-target.target-index in
    let more = take_item c.args.targets.now i c.target-item.result c.loop-target-test.true c.target-item.is in
    subst (λ (ts : List Path). AreUnlinked c.args.names.now c.args.lists.now c.unlink.new.lists c.args.source ts)
    (sym more)
    (unlink_more c.args.names.now c.args.lists.now c.loop-target.lists c.unlink.new.lists c.args.source
    (take i c.args.targets.now) (c.target-item.result ∷ []) c.loop-target.invariant c.unlink.ensures)

pub returns : goal.returns
returns c =
    let all =
    take_all c.args.targets.now c.loop-target.target-index (let t = c.loop-target-test.false in omega arith) in
    subst (λ (ts : List Path). AreUnlinked c.args.names.now c.args.lists.now c.loop-target.lists c.args.source ts) all
    c.loop-target.invariant
