use Rattle.std.proofs.Common.{◌<◌, ◌∙◌, ◌&&◌, ℕ, Vec, Global, ap, arith, false, true, length, refl}
use Rattle.std.specs.Prelude.{nat_lt}
use Rattle.std.specs.List.{slice_index}
use Rattle.live.specs.Remainder.{Remaining, is_in}
use Rattle.live.proofs.Asked.{misses, one_misses, one_passes, passes}
use Rattle.live.proofs.Ranges.{read_is}
use Rattle.live.proofs.Reachings.{both_hold, not_here, not_by_second, passing_inside, reaching_asked}
use Rattle.live.proofs.remainder.Remaining.reaching.Goals as goal
use Rattle.live.proofs.remainder.Remaining.reaching.Goals.{then-index+then-index-lt1+in_ok-push}
use Rattle.live.proofs.remainder.Remaining.reaching.Goals.{then-index+else-index-lt1, else-index}

pub loop-other-preserved : goal.loop-other-preserved
loop-other-preserved c =
    let p = λ (k : ℕ). is_in c.args.self.now.left k && nat_lt (slice_index c.in_ok-marks.marks.items k) 1 in
    let same = ap (λ (s : Remaining). s.left) c.self.view_is in
    let below : c.loop-other.other < length c.self.inside.left.items =
    (let t = c.loop-other-test.true in let e = c.len-other-end.ensures.value in let r = c.requires.places in
    let n = ap length same in omega arith) in
    let marked : c.loop-other.other < length c.in_ok-marks.marks.items =
    (let t = c.loop-other-test.true in let e = c.len-other-end.ensures.value in
    let n = c.in_ok-marks.ensures.count in omega arith) in
    elim c.if-index.branch [
      | then-index+then-index-lt1+in_ok-push w ↦ one_passes p c.loop-other.other c.loop-other.reaching.items
          c.if-index.reaching.items c.loop-other.invariant
          (both_hold (is_in c.args.self.now.left c.loop-other.other)
          (nat_lt (slice_index c.in_ok-marks.marks.items c.loop-other.other) 1)
          (read_is c.args.self.now.left c.self.inside.left.items c.loop-other.other c.index.result.now true same below
          c.index.ensures w.if-index.true)
          (passes c.in_ok-marks.marks.items c.loop-other.other c.loop-other.other w.index-then-index.result.now marked
          w.index-then-index.ensures refl w.if-index-lt1.true))
          (ap (λ (v : Vec ℕ Global). v.items) w.reaching-is ∙ w.in_ok-push.ensures.items)
      | then-index+else-index-lt1 w ↦ one_misses p c.loop-other.other c.loop-other.reaching.items
          c.if-index.reaching.items c.loop-other.invariant
          (not_by_second (is_in c.args.self.now.left c.loop-other.other)
          (nat_lt (slice_index c.in_ok-marks.marks.items c.loop-other.other) 1)
          (misses c.in_ok-marks.marks.items c.loop-other.other c.loop-other.other w.index-then-index.result.now marked
          w.index-then-index.ensures refl w.if-index-lt1.false))
          (ap (λ (v : Vec ℕ Global). v.items) w.reaching-is)
      | else-index w ↦ one_misses p c.loop-other.other c.loop-other.reaching.items c.if-index.reaching.items
          c.loop-other.invariant
          (not_here (is_in c.args.self.now.left c.loop-other.other)
          (nat_lt (slice_index c.in_ok-marks.marks.items c.loop-other.other) 1)
          (read_is c.args.self.now.left c.self.inside.left.items c.loop-other.other c.index.result.now false same below
          c.index.ensures w.if-index.false))
          (ap (λ (v : Vec ℕ Global). v.items) w.reaching-is)
    ]

pub returns-clause-inside : goal.returns-clause-inside
returns-clause-inside c =
    let p = λ (k : ℕ). is_in c.args.self.now.left k && nat_lt (slice_index c.in_ok-marks.marks.items k) 1 in
    passing_inside p c.loop-other.other (length c.args.graph.now) c.loop-other.reaching.items
    (let e = c.loop-other.auto.other-end in let n = c.len-other-end.ensures.value in omega arith)
    c.loop-other.invariant

pub returns-clause-reaching : goal.returns-clause-reaching
returns-clause-reaching c rows rise is =
    reaching_asked rows rise c.args.graph.now is c.args.place c.requires.place c.in_ok-marks.marks.items
    c.in_ok-marks.ensures c.args.self.now.left c.requires.places
    c.loop-other.other (let t = c.loop-other-test.false in let e = c.loop-other.auto.other-end in
    let n = c.len-other-end.ensures.value in omega arith) c.loop-other.reaching.items c.loop-other.invariant
