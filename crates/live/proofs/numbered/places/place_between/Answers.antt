use Rattle.std.proofs.Common.{◌∙◌, ◌+◌, ◌-◌, ◌/◌, ◌<◌, sym, arith, length}
use Rattle.std.specs.declared.cmp.Ordering.TheVariants.{Less, Equal, Greater}
use Rattle.live.proofs.Searching.{compared, is_place, no_place, searched_down, searched_up}
use Rattle.live.proofs.numbered.places.place_between.Goals as goal

pub search-preserved-in-Less : goal.search-preserved-in-Less
search-preserved-in-Less c =
    let m = c.search.low + (c.search.high - c.search.low) / 2 in
    let below : c.search.low + (c.search.high - c.search.low) / 2 < c.search.high =
    (let t = c.search-test.true in omega arith) in
    let inside : c.search.low + (c.search.high - c.search.low) / 2 < length c.args.rows.now =
    (let w = c.search.invariant.within in omega arith) in
    searched_up c.args.rows.now c.requires.rise c.args.path.now c.search.low c.search.high m c.search.invariant
    (omega arith) below
    (compared c.args.rows.now c.args.path.now m c.index-rows-middle.result Less inside
    (sym c.cmp.ensures ∙ c.in-Less.is))

pub search-preserved : goal.search-preserved
search-preserved c =
    let m = c.search.low + (c.search.high - c.search.low) / 2 in
    let below : c.search.low + (c.search.high - c.search.low) / 2 < c.search.high =
    (let t = c.search-test.true in omega arith) in
    let inside : c.search.low + (c.search.high - c.search.low) / 2 < length c.args.rows.now =
    (let w = c.search.invariant.within in omega arith) in
    searched_down c.args.rows.now c.requires.rise c.args.path.now c.search.low c.search.high m c.search.invariant
    (omega arith) below
    (compared c.args.rows.now c.args.path.now m c.index-rows-middle.result Greater inside
    (sym c.cmp.ensures ∙ c.in-Greater.is))

pub returns-in-Equal : goal.returns-in-Equal
returns-in-Equal c =
    let m = c.search.low + (c.search.high - c.search.low) / 2 in
    let inside : c.search.low + (c.search.high - c.search.low) / 2 < length c.args.rows.now =
    (let t = c.search-test.true in let w = c.search.invariant.within in omega arith) in
    is_place c.args.rows.now c.requires.rise c.args.path.now m inside
    (compared c.args.rows.now c.args.path.now m c.index-rows-middle.result Equal inside
    (sym c.cmp.ensures ∙ c.in-Equal.is))

pub returns : goal.returns
returns c =
    no_place c.args.rows.now c.requires.rise c.args.path.now c.search.low c.search.invariant.less
    (λ k d a b. c.search.invariant.greater k d
    (let t = c.search-test.false in let o = c.search.invariant.ordered in omega arith) b)
