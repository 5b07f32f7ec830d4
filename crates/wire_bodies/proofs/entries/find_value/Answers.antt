use Rattle.std.proofs.Common.{sym, ◌∙◌}
use Rattle.wire_bodies.specs.Lines.{Entry}
use Rattle.wire_bodies.specs.Values.{Are, values}
use Rattle.wire_bodies.proofs.ValueLemmas.{values_yes, values_no}
use Rattle.wire_bodies.proofs.Passing.{one_passed}
use Rattle.wire_bodies.proofs.entries.find_value.Goals as goal

pub lines-preserved-then-eq : goal.lines-preserved-then-eq
lines-preserved-then-eq c =
    let key = c.args.key.now in
    let e : Entry = (c.in-Some.name.now, c.in-Some.value.now) in
    one_passed (λ es. Are (values key es) c.lines.found) (λ es. Are (values key es) c.with_one_more-found.result)
    c.args.entries.now c.lines.left c.take_entry.new.self e c.lines.invariant c.in-Some.ensures
    (λ done are. rw (values_yes key done e (sym c.eq.ensures ∙ c.if-eq.true)) (c.with_one_more-found.ensures _ are))

pub lines-preserved : goal.lines-preserved
lines-preserved c =
    let key = c.args.key.now in
    let e : Entry = (c.in-Some.name.now, c.in-Some.value.now) in
    one_passed (λ es. Are (values key es) c.lines.found) (λ es. Are (values key es) c.lines.found) c.args.entries.now
    c.lines.left c.take_entry.new.self e c.lines.invariant c.in-Some.ensures
    (λ done are. rw (values_no key done e (sym c.eq.ensures ∙ c.if-eq.false)) are)
