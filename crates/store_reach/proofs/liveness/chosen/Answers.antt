use Rattle.std.proofs.Common.{◌<◌, List, ℕ, Vec, Global, length, arith, sym, ap, ◌∙◌}
use Rattle.store_reach.proofs.Marked.{row_chosen, row_passed_over}
use Rattle.store_reach.proofs.liveness.chosen.Goals as goal
use Rattle.store_reach.proofs.liveness.chosen.Goals.{then-is_wanted+in_ok-clone+in_ok-push, else-is_wanted}

pub loop-place-preserved : goal.loop-place-preserved
loop-place-preserved c test is =
    let inside : c.loop-place.place < length c.args.rows.now = (let t = c.loop-place-test.true in omega arith) in
    elim c.if-is_wanted.branch [
      | then-is_wanted+in_ok-clone+in_ok-push w ↦ row_chosen c.args.rows.now c.loop-place.place inside c.args.lives.now
          c.args.wanted test is c.loop-place.chosen.items c.if-is_wanted.chosen.items (c.loop-place.invariant test is)
          w.index-rows-place.result _ (sym c.is_wanted.ensures ∙ w.if-is_wanted.true)
          (ap (λ (v : Vec (List ℕ) Global). v.items) w.chosen-is ∙ w.in_ok-push.ensures.items)
          w.in_ok-clone.ensures.cases
      | else-is_wanted w ↦ row_passed_over c.args.rows.now c.loop-place.place inside c.args.lives.now c.args.wanted test
          is c.loop-place.chosen.items c.if-is_wanted.chosen.items (c.loop-place.invariant test is)
          (sym c.is_wanted.ensures ∙ w.if-is_wanted.false) (ap (λ (v : Vec (List ℕ) Global). v.items) w.chosen-is)
    ]
