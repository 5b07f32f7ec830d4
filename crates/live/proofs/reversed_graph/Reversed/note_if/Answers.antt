use Rattle.std.proofs.Common.{◌≡◌, [], sym, subst, arith, Bool, true, ℕ}
use Rattle.std.specs.Prelude.{if◌then◌else◌}
use Rattle.std.specs.List.{slice_range}
use Rattle.live.specs.Backward.{IsNoted}
use Rattle.live.specs.Places.{entries_at, held}
use Rattle.live.proofs.Turned.{noted_part_more, noted_part_none}
use Rattle.live.proofs.reversed_graph.Reversed.note_if.Goals as goal

pub loop-entry-init : goal.loop-entry-init
loop-entry-init c =
    noted_part_none c.args.self.now c.args.range.place (held (entries_at c.args.graph.now c.args.range.place))
    c.args.range.from

pub loop-entry-preserved : goal.loop-entry-preserved
loop-entry-preserved c =
    noted_part_more c.args.self.now c.loop-entry.self c.note.new.self c.args.range.place
    (held (entries_at c.args.graph.now c.args.range.place)) c.args.range.from c.loop-entry.entry c.entry-target.result
    c.loop-entry.auto.entry (omega arith) c.entry-target.ensures.read.value c.loop-entry.invariant c.in_ok-note.ensures

pub returns : goal.returns
returns c =
    let last : c.loop-entry.entry ≡ c.args.range.to =
    (let t = c.loop-entry-test.false in let e = c.loop-entry.auto.entry-end c.requires.from in omega arith) in
    let all =
    subst (λ (k : ℕ). IsNoted c.args.self.now c.loop-entry.self c.args.range.place
    (slice_range (held (entries_at c.args.graph.now c.args.range.place)) c.args.range.from k)) last
    c.loop-entry.invariant in
    let counts : c.args.counts ≡ true = c.if-not-counts.false in
    subst (λ (b : Bool). IsNoted c.args.self.now c.loop-entry.self c.args.range.place
    (if b then slice_range (held (entries_at c.args.graph.now c.args.range.place)) c.args.range.from c.args.range.to
    else [])) (sym counts) all
