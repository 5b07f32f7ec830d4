use Rattle.std.proofs.Common.{◌∙◌, ℕ, Vec, Global, ap, sym}
use Rattle.live.specs.Reaching.{is_marked}
use Rattle.live.proofs.Asked.{one_misses, one_passes}
use Rattle.live.proofs.back_walk.Reaching.places.Goals as goal
use Rattle.live.proofs.back_walk.Reaching.places.Goals.{then-has+in_ok-push, else-has}

pub loop-place-preserved : goal.loop-place-preserved
loop-place-preserved c =
    let p = is_marked c.args.self.now in
    elim c.if-has.branch [
      | then-has+in_ok-push w ↦ one_passes p c.loop-place.place c.loop-place.found.items c.if-has.found.items
          c.loop-place.invariant
          (sym c.has.ensures ∙ w.if-has.true)
          (ap (λ (v : Vec ℕ Global). v.items) w.found-is ∙ w.in_ok-push.ensures.items)
      | else-has w ↦ one_misses p c.loop-place.place c.loop-place.found.items c.if-has.found.items
          c.loop-place.invariant
          (sym c.has.ensures ∙ w.if-has.false) (ap (λ (v : Vec ℕ Global). v.items) w.found-is)
    ]
