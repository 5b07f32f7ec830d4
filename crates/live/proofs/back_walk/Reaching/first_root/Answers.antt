use Rattle.std.proofs.Common.{◌∙◌, ℕ, ap, arith, below_more, length, sym}
use Rattle.std.specs.List.{slice_index}
use Rattle.live.specs.Reaching.{is_marked}
use Rattle.live.proofs.Named.{found_from, none_from}
use Rattle.live.proofs.back_walk.Reaching.first_root.Goals as goal

pub has-requires : goal.has-requires
has-requires c =
    (let a = c.requires c.loop-root.root 0
    (let t = c.loop-root-test.true in let e = c.len-root-end.ensures in omega arith) in
    let v = c.root-target.ensures.value in omega arith)

pub loop-root-preserved : goal.loop-root-preserved
loop-root-preserved c =
    below_more _ _ c.loop-root.invariant
    (ap (is_marked c.args.self.now) (sym c.root-target.ensures.value) ∙ sym c.has.ensures ∙ c.if-has.false)

pub returns-then-has : goal.returns-then-has
returns-then-has c =
    sym (found_from (λ (k : ℕ). is_marked c.args.self.now (slice_index c.args.roots.now k)) 0 (length c.args.roots.now)
    c.loop-root.root (omega arith)
    (let t = c.loop-root-test.true in let e = c.len-root-end.ensures in omega arith) c.loop-root.invariant
    (ap (is_marked c.args.self.now) (sym c.root-target.ensures.value) ∙ sym c.has.ensures ∙ c.if-has.true))

pub returns : goal.returns
returns c =
    sym (none_from (λ (k : ℕ). is_marked c.args.self.now (slice_index c.args.roots.now k)) 0 (length c.args.roots.now)
    (λ j h. c.loop-root.invariant j (let t = c.loop-root-test.false in let e = c.len-root-end.ensures in omega arith)))
