use Rattle.std.proofs.Common.{◌∙◌, ◌<◌, ℕ, Vec, Global, ap, refl, arith, length, map}
use Rattle.std.specs.Prelude.{nat_lt}
use Rattle.std.specs.List.{slice_index}
use Rattle.live.proofs.Asked.{misses, one_misses, one_passes, passes, paths_passing, referrers_asked}
use Rattle.live.specs.Reach.{refers_to_any}
use Rattle.live.specs.Numbering.{graph_of, path_at}
use Rattle.live.proofs.ancestors.referrers.Goals as goal
use Rattle.live.proofs.ancestors.referrers.Goals.{then-index-lt1+in_ok-push, else-index-lt1}

pub loop-place-preserved : goal.loop-place-preserved
loop-place-preserved c =
    let p = λ (k : ℕ). nat_lt (slice_index c.in_ok-marks.marks.items k) 1 in
    let inside : c.loop-place.place < length c.in_ok-marks.marks.items =
    (let t = c.loop-place-test.true in let m = c.len-place-end.ensures.value in
    let n = c.in_ok-marks.ensures.count in omega arith) in
    elim c.if-index-lt1.branch [
      | then-index-lt1+in_ok-push w ↦ one_passes p c.loop-place.place c.loop-place.referring.items
          c.if-index-lt1.referring.items c.loop-place.invariant
          (passes c.in_ok-marks.marks.items c.loop-place.place c.loop-place.place c.index.result.now inside
          c.index.ensures refl w.if-index-lt1.true)
          (ap (λ (v : Vec ℕ Global). v.items) w.referring-is ∙ w.in_ok-push.ensures.items)
      | else-index-lt1 w ↦ one_misses p c.loop-place.place c.loop-place.referring.items c.if-index-lt1.referring.items
          c.loop-place.invariant
          (misses c.in_ok-marks.marks.items c.loop-place.place c.loop-place.place c.index.result.now inside
          c.index.ensures refl w.if-index-lt1.false)
          (ap (λ (v : Vec ℕ Global). v.items) w.referring-is)
    ]

asked : goal.returns-clause-places
asked c rows rise is =
    referrers_asked rows rise c.args.graph.now is c.args.named.now c.in_ok-marks.marks.items c.requires
    c.in_ok-marks.ensures
    c.loop-place.place (let t = c.loop-place-test.false in let e = c.loop-place.auto.place-end in
    let n = c.len-place-end.ensures.value in omega arith) c.loop-place.referring.items c.loop-place.invariant

pub returns-clause-places : goal.returns-clause-places
returns-clause-places c = asked c

pub returns-clause-paths : goal.returns-clause-paths
returns-clause-paths c rows rise is =
    paths_passing rows (refers_to_any (graph_of rows) (map (path_at rows) c.args.named.now))
    c.loop-place.referring.items (asked c rows rise is)
