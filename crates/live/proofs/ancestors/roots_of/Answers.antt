use Rattle.std.proofs.Common.{◌∙◌, ◌<◌, ℕ, Vec, Global, ap, arith, length}
use Rattle.std.specs.Prelude.{nat_lt}
use Rattle.std.specs.List.{slice_index}
use Rattle.paths.specs.Root.{Root}
use Rattle.live.specs.Reach.{reaches}
use Rattle.live.specs.Numbering.{graph_of, no_root, path_at}
use Rattle.live.specs.Keeping.{keep_view}
use Rattle.live.proofs.Asked.{all_passing, misses, one_misses, one_passes, passes, roots_asked}
use Rattle.live.proofs.ancestors.roots_of.Goals as goal
use Rattle.live.proofs.ancestors.roots_of.Goals.{then-index-lt1+in_ok-push, else-index-lt1}

pub loop-root-preserved : goal.loop-root-preserved
loop-root-preserved c =
    let p = λ (k : ℕ). nat_lt (slice_index c.in_ok-marks.marks.items (slice_index c.args.roots.now k)) 1 in
    let aim =
    c.requires.targets c.loop-root.root 0
    (let t = c.loop-root-test.true in let n = c.len-root-end.ensures in omega arith) in
    let inside : c.root-target.result < length c.in_ok-marks.marks.items =
    (let n = c.in_ok-marks.ensures.count in let v = c.root-target.ensures.value in omega arith) in
    elim c.if-index-lt1.branch [
      | then-index-lt1+in_ok-push w ↦ one_passes p c.loop-root.root c.loop-root.reaching.items
          c.if-index-lt1.reaching.items c.loop-root.invariant
          (passes c.in_ok-marks.marks.items c.root-target.result (slice_index c.args.roots.now c.loop-root.root)
          c.index.result.now inside c.index.ensures c.root-target.ensures.value w.if-index-lt1.true)
          (ap (λ (v : Vec ℕ Global). v.items) w.reaching-is ∙ w.in_ok-push.ensures.items)
      | else-index-lt1 w ↦ one_misses p c.loop-root.root c.loop-root.reaching.items c.if-index-lt1.reaching.items
          c.loop-root.invariant
          (misses c.in_ok-marks.marks.items c.root-target.result (slice_index c.args.roots.now c.loop-root.root)
          c.index.result.now inside c.index.ensures c.root-target.ensures.value w.if-index-lt1.false)
          (ap (λ (v : Vec ℕ Global). v.items) w.reaching-is)
    ]

asked : goal.returns-clause-places
asked c rows given rise is aimed =
    roots_asked rows rise c.args.graph.now is (keep_view c.args.keep) given c.args.roots.now aimed c.args.place
    c.requires.place c.in_ok-marks.marks.items c.in_ok-marks.ensures
    c.loop-root.root (let t = c.loop-root-test.false in let e = c.loop-root.auto.root-end in
    let n = c.len-root-end.ensures in omega arith) c.loop-root.reaching.items c.loop-root.invariant

pub returns-clause-places : goal.returns-clause-places
returns-clause-places c = asked c

pub returns-clause-roots : goal.returns-clause-roots
returns-clause-roots c rows given rise is aimed =
    all_passing (λ (r : Root). reaches (keep_view c.args.keep) (graph_of rows) r.target (path_at rows c.args.place))
    no_root given c.loop-root.reaching.items (asked c rows given rise is aimed)
