use Rattle.std.proofs.Common.{◌≡◌, sym, ◌∙◌, ap, Some}
use Rattle.wire_bodies.specs.Lines.{Entry}
use Rattle.wire_bodies.specs.Values.{values, each}
use Rattle.wire_bodies.specs.Kinds.{path_text}
use Rattle.wire_bodies.proofs.ValueLemmas.{values_yes, values_no, each_more}
use Rattle.wire_bodies.proofs.Passed.{answers_nothing}
use Rattle.wire_bodies.proofs.Passing.{one_passed, each_bad}
use Rattle.wire_bodies.proofs.values.each_path.Goals as goal

pub lines-preserved-in_ok-push : goal.lines-preserved-in_ok-push
lines-preserved-in_ok-push c =
    let key = c.args.key.now in
    let read = path_text c.args.dir.now in
    let e : Entry = (c.in-Some.name.now, c.in-Some.value.now) in
    one_passed (λ es. each read (values key es) ≡ Some (c.lines.paths.items))
    (λ es. each read (values key es) ≡ Some (c.push.new.self.items)) c.args.entries.now c.lines.left
    c.take_entry.new.self e c.lines.invariant c.in-Some.ensures
    (λ done are. ap (each read) (values_yes key done e (sym c.eq.ensures ∙ c.if-eq.true))
    ∙ each_more read _ _ _ _ are c.in_ok-path_of.ensures ∙ ap (λ t. Some t) (sym c.in_ok-push.ensures.items))

pub lines-preserved : goal.lines-preserved
lines-preserved c =
    let key = c.args.key.now in
    let read = path_text c.args.dir.now in
    let e : Entry = (c.in-Some.name.now, c.in-Some.value.now) in
    one_passed (λ es. each read (values key es) ≡ Some (c.lines.paths.items))
    (λ es. each read (values key es) ≡ Some (c.lines.paths.items)) c.args.entries.now c.lines.left
    c.take_entry.new.self e c.lines.invariant c.in-Some.ensures
    (λ done are. ap (each read) (values_no key done e (sym c.eq.ensures ∙ c.if-eq.false)) ∙ are)

pub returns-in_err-path_of : goal.returns-in_err-path_of
returns-in_err-path_of c =
    let key = c.args.key.now in
    let read = path_text c.args.dir.now in
    let e : Entry = (c.in-Some.name.now, c.in-Some.value.now) in
    answers_nothing _ (each read (values key c.args.entries.now)) c.in_err-path_of.field-0.0 c.from_residual.result
    c.from_residual.ensures.1 (λ bad.
    each_bad read (λ es. each read (values key es) ≡ Some (c.lines.paths.items)) c.args.entries.now c.lines.left
    c.take_entry.new.self e c.lines.invariant c.in-Some.ensures key (sym c.eq.ensures ∙ c.if-eq.true)
    (rw bad at c.in_err-path_of.ensures))
