use Rattle.std.proofs.Common.{◌≡◌, ◌∙◌, ◌+◌, ◌<◌, ◌∷◌, ap, arith, drop, drop-cons, length, suc, subst, sym, List, ℕ}
use Rattle.live.specs.Places.{entries_at}
use Rattle.live.specs.Remainder.{IsRemaining, Remaining, times_in}
use Rattle.live.proofs.Counts.{first_held}
use Rattle.live.proofs.Removals.{lessened, positive, skipped, settled}
use Rattle.live.proofs.remainder.Remaining.forget.Goals as goal
use Rattle.live.proofs.remainder.Remaining.forget.Goals.{then-target-place+in_ok-lessen, else-target-place}

pub loop-entry-preserved : goal.loop-entry-preserved
loop-entry-preserved c =
    let refs = (entries_at c.args.graph.now c.args.place).references in
    let below : c.loop-entry.entry < length (entries_at c.args.graph.now c.args.place).references =
    (let t = c.loop-entry-test.true in let n = c.object-has.ensures.references in omega arith) in
    let is =
    c.entry-target.ensures.read.value
    ∙ first_held (entries_at c.args.graph.now c.args.place) c.loop-entry.entry below in
    let later : suc c.loop-entry.entry ≡ c.loop-entry.entry + 1 = omega arith in
    let dropped = drop-cons (entries_at c.args.graph.now c.args.place).references c.loop-entry.entry 0 below
    ∙ ap (λ x. x ∷ drop (suc c.loop-entry.entry) (entries_at c.args.graph.now c.args.place).references) (sym is)
    ∙ ap (λ k. c.entry-target.result ∷ drop k (entries_at c.args.graph.now c.args.place).references) later in
    let r =
    subst (λ (xs : List ℕ). IsRemaining c.args.graph.now (times_in c.args.place xs) c.loop-entry.self) dropped
    c.loop-entry.invariant.0 in
    elim c.if-target-place.branch [
      | then-target-place+in_ok-lessen w ↦ (
        subst (λ (s : Remaining). IsRemaining c.args.graph.now
            (times_in c.args.place (drop (c.loop-entry.entry + 1)
            (entries_at c.args.graph.now c.args.place).references)) s) (sym w.self-is)
            (lessened c.args.graph.now c.args.place c.entry-target.result
            (drop (c.loop-entry.entry + 1) (entries_at c.args.graph.now c.args.place).references)
            c.loop-entry.self w.lessen.new.self
            (λ e. w.if-target-place.true (sym e)) c.entry-target.ensures.inside r w.in_ok-lessen.ensures.dead
            w.in_ok-lessen.ensures.left w.in_ok-lessen.ensures.referrers w.in_ok-lessen.ensures.ready
            (w.in_ok-lessen.ensures.ordered r.ordered)),
        ap (λ (s : Remaining). s.dead) w.self-is ∙ w.in_ok-lessen.ensures.dead ∙ c.loop-entry.invariant.1,
        ap (λ (s : Remaining). s.left) w.self-is ∙ w.in_ok-lessen.ensures.left ∙ c.loop-entry.invariant.2,
      )
      | else-target-place w ↦ (
        subst (λ (s : Remaining). IsRemaining c.args.graph.now
            (times_in c.args.place (drop (c.loop-entry.entry + 1)
            (entries_at c.args.graph.now c.args.place).references)) s) (sym w.self-is)
            (skipped c.args.graph.now c.args.place c.entry-target.result
            (drop (c.loop-entry.entry + 1) (entries_at c.args.graph.now c.args.place).references)
            c.loop-entry.self (sym w.if-target-place.false) r),
        ap (λ (s : Remaining). s.dead) w.self-is ∙ c.loop-entry.invariant.1,
        ap (λ (s : Remaining). s.left) w.self-is ∙ c.loop-entry.invariant.2,
      )
    ]

pub lessen-requires-clause-some : goal.lessen-requires-clause-some
lessen-requires-clause-some c =
    let below : c.loop-entry.entry < length (entries_at c.args.graph.now c.args.place).references =
    (let t = c.loop-entry-test.true in let n = c.object-has.ensures.references in omega arith) in
    let is =
    c.entry-target.ensures.read.value
    ∙ first_held (entries_at c.args.graph.now c.args.place) c.loop-entry.entry below in
    let later : suc c.loop-entry.entry ≡ c.loop-entry.entry + 1 = omega arith in
    let dropped = drop-cons (entries_at c.args.graph.now c.args.place).references c.loop-entry.entry 0 below
    ∙ ap (λ x. x ∷ drop (suc c.loop-entry.entry) (entries_at c.args.graph.now c.args.place).references) (sym is)
    ∙ ap (λ k. c.entry-target.result ∷ drop k (entries_at c.args.graph.now c.args.place).references) later in
    let r =
    subst (λ (xs : List ℕ). IsRemaining c.args.graph.now (times_in c.args.place xs) c.loop-entry.self) dropped
    c.loop-entry.invariant.0 in
    positive c.args.graph.now c.args.place c.entry-target.result
    (drop (c.loop-entry.entry + 1) (entries_at c.args.graph.now c.args.place).references) c.loop-entry.self
    c.loop-entry.self
    (λ e. c.if-target-place.true (sym e)) c.entry-target.ensures.inside r

pub returns : goal.returns
returns c = record {
  dead = c.loop-entry.invariant.1;
  left = c.loop-entry.invariant.2;
  remaining =
      settled c.args.graph.now c.args.place (entries_at c.args.graph.now c.args.place).references c.loop-entry.entry
      c.loop-entry.self
      (let t = c.loop-entry-test.false in let n = c.object-has.ensures.references in omega arith)
      c.loop-entry.invariant.0;
}
