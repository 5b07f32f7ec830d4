use Rattle.std.proofs.Common.{◌∙◌, ◌≡◌, ℕ, Vec, Global, ap, arith, sym}
use Rattle.std.specs.List.{slice_index}
use Rattle.live.specs.Reaching.{is_marked}
use Rattle.live.proofs.Asked.{one_misses, one_passes}
use Rattle.live.proofs.back_walk.Reaching.roots.Goals as goal
use Rattle.live.proofs.back_walk.Reaching.roots.Goals.{then-has+in_ok-push, else-has}

pub has-requires : goal.has-requires
has-requires c =
    (let a = c.requires c.loop-root.root 0
    (let t = c.loop-root-test.true in let e = c.len-root-end.ensures in omega arith) in
    let v = c.root-target.ensures.value in omega arith)

pub loop-root-preserved : goal.loop-root-preserved
loop-root-preserved c =
    let p = λ (k : ℕ). is_marked c.args.self.now (slice_index c.args.roots.now k) in
    let tested : p c.loop-root.root ≡ c.has.result =
    ap (is_marked c.args.self.now) (sym c.root-target.ensures.value) ∙ sym c.has.ensures in
    elim c.if-has.branch [
      | then-has+in_ok-push w ↦ one_passes p c.loop-root.root c.loop-root.found.items c.if-has.found.items
          c.loop-root.invariant
          (tested ∙ w.if-has.true) (ap (λ (v : Vec ℕ Global). v.items) w.found-is ∙ w.in_ok-push.ensures.items)
      | else-has w ↦ one_misses p c.loop-root.root c.loop-root.found.items c.if-has.found.items c.loop-root.invariant
          (tested ∙ w.if-has.false) (ap (λ (v : Vec ℕ Global). v.items) w.found-is)
    ]
