use Rattle.std.proofs.Common.{List, [], ◌∷◌, take, subst, sym, arith}
use Rattle.live.specs.Graph.{Path}
use Rattle.tables_outline.specs.Links.{AreCleared}
use Rattle.tables_outline.proofs.Held.{clear_more, clear_none}
use Rattle.tables_outline.proofs.TakenLinks.{take_all, take_item}
use Rattle.tables_outline.proofs.source_links.clear_all.Goals as goal

pub loop-path-init : goal.loop-path-init
loop-path-init c = clear_none c.args.names.now c.args.held.now

pub loop-path-preserved : goal.loop-path-preserved
loop-path-preserved c =
    let i = c.loop-path.path-index in
    let more = take_item c.args.paths.now i c.path-item.result c.loop-path-test.true c.path-item.is in
    subst (λ (ts : List Path). AreCleared c.args.names.now c.args.held.now c.clear.new.held ts) (sym more)
    (clear_more c.args.names.now c.args.held.now c.loop-path.held c.clear.new.held (take i c.args.paths.now)
    (c.path-item.result ∷ []) c.loop-path.invariant c.clear.ensures)

pub returns : goal.returns
returns c =
    let all = take_all c.args.paths.now c.loop-path.path-index (let t = c.loop-path-test.false in omega arith) in
    subst (λ (ts : List Path). AreCleared c.args.names.now c.args.held.now c.loop-path.held ts) all
    c.loop-path.invariant
