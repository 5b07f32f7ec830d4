use Rattle.std.proofs.Common.{◌+◌, ◌-◌, ◌/◌, ◌<◌, arith, length}
use Rattle.live.proofs.Searching.{above_head, below_head, searched_down, searched_up}
use Rattle.live.proofs.numbered.places.range_by_head.Goals as goal

pub search-preserved-then-other-head-2 : goal.search-preserved-then-other-head-2
search-preserved-then-other-head-2 c =
    let m = c.search.low + (c.search.high - c.search.low) / 2 in
    let below : c.search.low + (c.search.high - c.search.low) / 2 < c.search.high =
    (let t = c.search-test.true in omega arith) in
    let inside : c.search.low + (c.search.high - c.search.low) / 2 < length c.args.rows.now =
    (let w = c.search.invariant.within in omega arith) in
    searched_up c.args.rows.now c.requires.rise c.args.path.now c.search.low c.search.high m c.search.invariant
    (omega arith) below
    (below_head c.args.rows.now c.requires.rise c.args.heads.now c.requires.heads c.args.path.now
    c.head_of-head.ensures.bytes m inside
    (let l = c.if-other-head-2.true in let v = c.head_of-head.ensures.value in omega arith))

pub search-preserved : goal.search-preserved
search-preserved c =
    let m = c.search.low + (c.search.high - c.search.low) / 2 in
    let below : c.search.low + (c.search.high - c.search.low) / 2 < c.search.high =
    (let t = c.search-test.true in omega arith) in
    let inside : c.search.low + (c.search.high - c.search.low) / 2 < length c.args.rows.now =
    (let w = c.search.invariant.within in omega arith) in
    searched_down c.args.rows.now c.requires.rise c.args.path.now c.search.low c.search.high m c.search.invariant
    (omega arith) below
    (above_head c.args.rows.now c.requires.rise c.args.heads.now c.requires.heads c.args.path.now
    c.head_of-head.ensures.bytes m inside
    (let l = c.if-other-head-2.false in let n = c.if-other-head.false in let v = c.head_of-head.ensures.value in
    omega arith))
