use Rattle.std.proofs.Common.{arith}
use Rattle.std.specs.Prelude.{not}
use Rattle.live.specs.Live.{is_live}
use Rattle.live.specs.Numbering.{graph_of}
use Rattle.live.proofs.Ends.{paths_deleted}
use Rattle.live.proofs.Turns.{one_more, over, under_way}
use Rattle.live.proofs.limited_collection.limited.Goals as goal

pub turns-init : goal.turns-init
turns-init c =
    under_way c.args.graph.now c.args.marks.now c.args.sizes.now c.args.limit c.in_ok-remaining.remaining
    c.in_ok-remaining.ensures.remaining c.in_ok-remaining.ensures.left c.in_ok-remaining.ensures.dead

pub turns-preserved : goal.turns-preserved
turns-preserved c =
    one_more c.args.graph.now c.args.marks.now c.args.sizes.now c.args.limit c.turns.turn c.turns.remaining
    c.turn.new.self c.turns.wanted c.in_ok-wanted.wanted
    (let t = c.turns-test.true in let n = c.len-turn-end.ensures.value in omega arith) c.turns.invariant
    c.in_ok-wanted.ensures.dead.remaining c.in_ok-wanted.ensures.dead.dead c.in_ok-wanted.ensures.turn

places : goal.returns-clause-places
places c keep rows given size rise same exact sized =
    over c.args.graph.now c.args.marks.now c.args.sizes.now c.args.limit c.turns.turn c.turns.remaining c.turns.wanted
    (let t = c.turns-test.false in let n = c.len-turn-end.ensures.value in omega arith) c.turns.invariant
    c.in_ok-deleted_places.deleted_places.items c.in_ok-deleted_places.ensures keep rows given size rise same exact
    sized

pub returns-clause-places : goal.returns-clause-places
returns-clause-places c = places c

pub returns-clause-paths : goal.returns-clause-paths
returns-clause-paths c keep rows given size rise same exact sized =
    paths_deleted rows rise (λ p. not (is_live keep (graph_of rows) given p)) size c.args.limit
    c.in_ok-deleted_places.deleted_places.items (places c keep rows given size rise same exact sized)
