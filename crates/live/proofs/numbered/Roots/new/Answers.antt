use Rattle.std.proofs.Common.{◌≡◌, ◌∙◌, ◌+◌, ℕ, ap, sym, subst, arith, length, List, Vec, Global}
use Rattle.std.proofs.lemmas.List.{length-map}
use Rattle.live.specs.Numbering.{paths_of, place_of, root_at}
use Rattle.live.specs.Arguments.{row_view, rows_view, root_view, roots_view}
use Rattle.live.proofs.Aims.{AimsBelow, aims_more, aims_all, has_place, root_is}
use Rattle.live.proofs.numbered.Roots.new.Goals as goal
use Rattle.live.proofs.numbered.Roots.new.Goals.{in-Some+in_ok-push, in_default}

pub loop-root-preserved : goal.loop-root-preserved
loop-root-preserved c =
    let is = root_is c.args.roots.now c.loop-root.root-index c.root-item.result c.loop-root-test.true c.root-item.is in
    let at = ap (place_of (paths_of (rows_view c.args.rows.now))) is ∙ sym c.place_of.ensures.place in
    elim c.match-place_of.branch [
      | in-Some+in_ok-push w ↦
          subst (λ (xs : List ℕ). AimsBelow (rows_view c.args.rows.now) (roots_view c.args.roots.now)
          (c.loop-root.root-index + 1) xs)
          (sym (ap (λ (v : Vec ℕ Global). v.items) w.targets-is ∙ w.in_ok-push.ensures.items))
          (aims_more (rows_view c.args.rows.now) (roots_view c.args.roots.now) c.loop-root.root-index
          c.loop-root.targets.items w.in-Some.place c.loop-root.invariant (at ∙ w.in-Some.is))
      | in_default w ↦ absurd (has_place (rows_view c.args.rows.now) c.requires.rows
          (root_at (roots_view c.args.roots.now) c.loop-root.root-index).target
          (c.requires.targets c.loop-root.root-index
          (let n = length-map c.args.roots.now root_view in let t = c.loop-root-test.true in omega arith))
          (at ∙ w.in_default.is))
    ]

pub returns-clause-inside : goal.returns-clause-inside
returns-clause-inside c k d h =
    let count : c.loop-root.root-index ≡ length (roots_view c.args.roots.now) =
    (let n = length-map c.args.roots.now root_view in let t = c.loop-root-test.false in
    let e = c.loop-root.auto.root-index-end in omega arith) in
    let all =
    aims_all (rows_view c.args.rows.now) c.requires.rows (roots_view c.args.roots.now) c.loop-root.root-index
    c.loop-root.targets.items count c.loop-root.invariant in
    let below = all.1 k d h in
    let n = length-map c.args.rows.now row_view in
    omega arith
