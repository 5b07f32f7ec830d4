use Rattle.std.proofs.Common.{◌≡◌, ◌∙◌, ◌<◌, ◌+◌, ◌∷◌, ◌++◌, [], ap, arith, length, replicate, rules, sym, subst, true}
use Rattle.std.proofs.Common.{List, Bool, ℕ}
use Rattle.std.specs.Prelude.{is_none}
use Rattle.std.specs.List.{slice_index}
use Rattle.std.specs.BinaryHeap.{heap_items}
use Rattle.std.specs.declared.cmp.Reverse.{Reverse}
use Rattle.std.proofs.lemmas.List.{get_or_default}
use Rattle.live.proofs.Beginnings.{IsBegun, begun, begun_referred, begun_waiting, none_reported}
use Rattle.live.proofs.remainder.Remaining.new.Goals as goal
use Rattle.live.proofs.remainder.Remaining.new.Goals.{then-index-eq0+in_ok-push-2, else-index-eq0}

pub loop-place-preserved : goal.loop-place-preserved
loop-place-preserved c =
    let is = none_reported c.first_root.result c.is_none.result c.is_none.ensures ∙ ap is_none c.first_root.ensures in
    let below : c.loop-place.place < length c.in_ok-referrers.referrers.items =
    (let t = c.loop-place-test.true in let n = c.len-count.ensures.value in
    let p = c.in_ok-referrers.ensures.places in omega arith) in
    let read : slice_index c.in_ok-referrers.referrers.items c.loop-place.place ≡ c.index.result.now =
    get_or_default c.in_ok-referrers.referrers.items c.loop-place.place 0 c.index.result.now below
    ∙ sym c.index.ensures in
    subst (λ (ds : List Bool). IsBegun c.args.marks.now c.in_ok-referrers.referrers.items (c.loop-place.place + 1) ds
    (heap_items c.if-index-eq0.ready)) (sym c.in_ok-push.ensures.items)
    (elim c.if-index-eq0.branch as (λ _. IsBegun c.args.marks.now c.in_ok-referrers.referrers.items
    (c.loop-place.place + 1) (c.loop-place.dead.items ++ c.is_none.result ∷ [])
    (heap_items c.if-index-eq0.ready)) [
      | then-index-eq0+in_ok-push-2 w ↦
          subst (λ (xs : List (Reverse ℕ)). IsBegun c.args.marks.now c.in_ok-referrers.referrers.items
          (c.loop-place.place + 1) (c.loop-place.dead.items ++ c.is_none.result ∷ []) xs)
          (sym (ap heap_items w.ready-is))
          (begun_waiting c.args.marks.now c.in_ok-referrers.referrers.items c.loop-place.place c.loop-place.dead.items
          (heap_items c.loop-place.ready) (heap_items w.push-then-index-eq0.new.self) c.is_none.result
          c.loop-place.invariant is
          (read ∙ w.if-index-eq0.true) w.in_ok-push-2.ensures.permutation
          (w.in_ok-push-2.ensures.heap_order c.loop-place.invariant.ordered))
      | else-index-eq0 w ↦
          subst (λ (xs : List (Reverse ℕ)). IsBegun c.args.marks.now c.in_ok-referrers.referrers.items
          (c.loop-place.place + 1) (c.loop-place.dead.items ++ c.is_none.result ∷ []) xs)
          (sym (ap heap_items w.ready-is))
          (begun_referred c.args.marks.now c.in_ok-referrers.referrers.items c.loop-place.place c.loop-place.dead.items
          (heap_items c.loop-place.ready) c.is_none.result c.loop-place.invariant is
          (λ z. w.if-index-eq0.false (sym read ∙ z)))
    ])

pub returns-clause-remaining : goal.returns-clause-remaining
returns-clause-remaining c =
    begun c.args.graph.now c.args.marks.now c.in_ok-referrers.referrers.items c.loop-place.place c.loop-place.dead.items
    c.in_ok-left.left.items (heap_items c.loop-place.ready) c.loop-place.invariant
    (let t = c.loop-place-test.false in let e = c.loop-place.auto.place-end in let n = c.len-count.ensures.value in
    omega arith)
    (c.in_ok-left.ensures.items_if_clones_equal (search rules) ∙ ap (λ n. replicate n true) c.len-count.ensures.value)
    c.in_ok-referrers.ensures.places c.in_ok-referrers.ensures.counted
