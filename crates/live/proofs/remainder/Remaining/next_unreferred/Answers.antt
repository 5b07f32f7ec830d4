use Rattle.std.proofs.Common.{◌<◌, ◌∙◌, arith, false, length, sym, refl}
use Rattle.std.specs.BinaryHeap.{heap_items}
use Rattle.std.proofs.lemmas.Bool.{false≢true}
use Rattle.live.proofs.Removals.{passed, popped}
use Rattle.live.proofs.Ranges.{read_is}
use Rattle.live.proofs.remainder.Remaining.next_unreferred.Goals as goal
use Rattle.live.proofs.remainder.Remaining.next_unreferred.Goals.{else-index-via-then-index+else-index-2}
use Rattle.live.proofs.remainder.Remaining.next_unreferred.Goals.{else-index-via-else-index}

pub index-requires : goal.index-requires
index-requires c =
    let some : 0 < length (heap_items c.search.self-inside.ready) =
    (let v = c.in-Some.ensures.variant.0 refl in let o = c.search.self-inside.ready.data.ok in omega arith) in
    let w = c.search.invariant.0.waits c.in-Some.top.now (0, some, sym c.in-Some.ensures.lookup) in
    let p = c.search.invariant.0.places in
    let o = c.search.self-inside.left.ok in
    let l = w.0 in
    omega (arith, p, o, l)

pub search-preserved : goal.search-preserved
search-preserved c =
    let some : 0 < length (heap_items c.search.self-inside.ready) =
    (let v = c.in-Some.ensures.variant.0 refl in let o = c.search.self-inside.ready.data.ok in omega arith) in
    let r = c.search.invariant.0 in
    let w = r.waits c.in-Some.top.now (0, some, sym c.in-Some.ensures.lookup) in
    let in_left : c.in-Some.top.now.0 < length c.search.self-inside.left.items =
    (let p = r.places in let l = w.0 in omega arith) in
    let in_dead : c.in-Some.top.now.0 < length c.search.self-inside.dead.items =
    (let p = r.deads in let l = w.0 in omega arith) in
    let pop =
    popped (heap_items c.search.self-inside.ready) (heap_items c.pop.new.self) c.in-Some.top.now c.pop.result
    (c.pop.ensures.variant.1 (c.in-Some.ensures.variant.0 refl))
    c.pop.ensures.top c.pop.ensures.permutation c.pop.ensures.heap_order some c.in-Some.ensures.lookup r.ordered in (
      passed c.args.graph.now (record {
        dead = c.search.self-inside.dead.items;
        left = c.search.self-inside.left.items;
        referrers = c.search.self-inside.referrers.items;
        ready = heap_items c.search.self-inside.ready;
      }) r
          c.in-Some.top.now (heap_items c.pop.new.self) pop.0 pop.1
          (λ d l. elim c.else-index.branch as (λ _. ⊥) [
            | else-index-via-then-index+else-index-2 w ↦ false≢true
                (sym (read_is c.search.self-inside.dead.items c.search.self-inside.dead.items c.in-Some.top.now.0
                w.index-then-index.result.now false (λ i. c.search.self-inside.dead.items) in_dead
                w.index-then-index.ensures w.if-index-2.false) ∙ d)
            | else-index-via-else-index w ↦ false≢true
                (sym (read_is c.search.self-inside.left.items c.search.self-inside.left.items c.in-Some.top.now.0
                c.index.result.now false (λ i. c.search.self-inside.left.items) in_left c.index.ensures
                w.if-index.false) ∙ l)
          ]),
      c.search.invariant.1,
      c.search.invariant.2,
    )
