use Rattle.std.proofs.Common.{◌<◌, ◌∙◌, ℕ, Vec, Global, ap, arith, false, true, length}
use Rattle.std.specs.Prelude.{not}
use Rattle.live.specs.Remainder.{Remaining, is_in}
use Rattle.live.proofs.Asked.{one_misses, one_passes}
use Rattle.live.proofs.Ranges.{read_is}
use Rattle.live.proofs.remainder.Remaining.deleted_places.Goals as goal
use Rattle.live.proofs.remainder.Remaining.deleted_places.Goals.{then-not-index+in_ok-push, else-not-index}

pub loop-place-preserved : goal.loop-place-preserved
loop-place-preserved c =
    let p = λ (k : ℕ). not (is_in c.args.self.now.left k) in
    let same = ap (λ (s : Remaining). s.left) c.self.view_is in
    let inside : c.loop-place.place < length c.self.inside.left.items =
    (let t = c.loop-place-test.true in let e = c.len-place-end.ensures in let o = c.self.inside.left.ok in
    omega arith) in
    elim c.if-not-index.branch [
      | then-not-index+in_ok-push w ↦ one_passes p c.loop-place.place c.loop-place.deleted_places.items
          c.if-not-index.deleted_places.items c.loop-place.invariant
          (ap not (read_is c.args.self.now.left c.self.inside.left.items c.loop-place.place c.index.result.now false
          same inside c.index.ensures w.if-not-index.true))
          (ap (λ (v : Vec ℕ Global). v.items) w.deleted_places-is ∙ w.in_ok-push.ensures.items)
      | else-not-index w ↦ one_misses p c.loop-place.place c.loop-place.deleted_places.items
          c.if-not-index.deleted_places.items c.loop-place.invariant
          (ap not (read_is c.args.self.now.left c.self.inside.left.items c.loop-place.place c.index.result.now true same
          inside c.index.ensures w.if-not-index.false))
          (ap (λ (v : Vec ℕ Global). v.items) w.deleted_places-is)
    ]
