use Rattle.std.proofs.Common.{◌≡◌, ℕ, ◌+◌, ◌<◌, ◌≤◌, List, length, take, sym, ap, ◌∙◌, subst, arith, Vec, Global}
use Rattle.std.proofs.lemmas.Grind.{common_steps}
use Rattle.std.specs.List.{slice_index, slice_set}
use Rattle.live.specs.Places.{entries_at}
use Rattle.live.proofs.Counts.{IsCounted, none_counted, one_counted, self_counted, all_counted, first_held}
use Rattle.live.proofs.Counts.{held_at_least}
use Rattle.live.proofs.referrer_counts.count.Goals.{then-target-place+in_ok-referrers, else-target-place}
use Rattle.live.proofs.referrer_counts.count.Goals as goal

pub loop-entry-init : goal.loop-entry-init
loop-entry-init c = none_counted c.args.place c.args.referrers.now.items

pub entry-target-requires : goal.entry-target-requires
entry-target-requires c =
    let held = held_at_least (entries_at c.args.graph.now c.args.place) in
    omega arith

pub loop-entry-preserved : goal.loop-entry-preserved
loop-entry-preserved c =
    let refs : List ℕ = (entries_at c.args.graph.now c.args.place).references in
    let below : c.loop-entry.entry < length refs = omega arith in
    let is : c.entry-target.result ≡ slice_index refs c.loop-entry.entry =
    c.entry-target.ensures.read.value
    ∙ first_held (entries_at c.args.graph.now c.args.place) c.loop-entry.entry below in
    elim c.if-target-place.branch [
      | then-target-place+in_ok-referrers w ↦
          let inside : c.entry-target.result < length c.args.referrers.now.items = omega arith in
          let more : w.in_ok-referrers.field-0 ≡ slice_index c.loop-entry.referrers.items c.entry-target.result + 1 =
          grind (arith, common_steps) in
          let after : c.if-target-place.referrers.items
          ≡ slice_set c.loop-entry.referrers.items c.entry-target.result
          (slice_index c.loop-entry.referrers.items c.entry-target.result + 1) =
          ap (λ (v : Vec ℕ Global). v.items) w.referrers-is
          ∙ ap (slice_set c.loop-entry.referrers.items c.entry-target.result) more in
          one_counted c.args.place refs c.args.referrers.now.items c.loop-entry.referrers.items
          c.if-target-place.referrers.items c.loop-entry.entry c.entry-target.result below is inside
          w.if-target-place.true c.loop-entry.invariant after
      | else-target-place w ↦
          let self =
          self_counted c.args.place refs c.args.referrers.now.items c.loop-entry.referrers.items c.loop-entry.entry
          c.entry-target.result below is w.if-target-place.false c.loop-entry.invariant in
          subst (λ (v : Vec ℕ Global). IsCounted c.args.place (take (c.loop-entry.entry + 1) refs)
          c.args.referrers.now.items v.items) (sym w.referrers-is) self
    ]

pub returns-clause-counted : goal.returns-clause-counted
returns-clause-counted c = λ t b.
    let inside : t < length c.args.referrers.now.items = omega arith in
    let all : length (entries_at c.args.graph.now c.args.place).references ≤ c.loop-entry.entry = omega arith in
    all_counted c.args.place (entries_at c.args.graph.now c.args.place).references c.args.referrers.now.items
    c.loop-entry.referrers.items c.loop-entry.entry all c.loop-entry.invariant t inside
