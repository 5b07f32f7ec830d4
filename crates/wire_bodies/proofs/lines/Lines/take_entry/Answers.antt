use Rattle.std.proofs.Common.{sym, ◌∙◌}
use Rattle.wire_bodies.specs.Lines.{entries_in}
use Rattle.wire_bodies.proofs.Passing.{none_left, is_entry, passed}
use Rattle.wire_bodies.proofs.lines.Lines.take_entry.Goals as goal

pub returns-in_default : goal.returns-in_default
returns-in_default c =
    let text = c.self.inside.text.now in
    let lacks = rw c.in_default.is at c.first_line.ensures in
    sym c.self.view_is ∙ none_left text (entries_in text) c.self.invariant lacks

pub returns-in_default-entry_of : goal.returns-in_default-entry_of
returns-in_default-entry_of c =
    let text = c.self.inside.text.now in
    let none = rw c.in_default-entry_of.is at c.entry_of.ensures in
    absurd (is_entry text c.in-Some.line.now c.in-Some.after.now c.in-Some.ensures.0 c.in-Some.ensures.1
    (entries_in text) c.self.invariant none)

pub invariant_of-self : goal.invariant_of-self
invariant_of-self c =
    let text = c.self.inside.text.now in
    let entry = c.in-Some-entry_of.entry in
    let is = c.in-Some-entry_of.ensures in
    (passed text c.in-Some.line.now c.in-Some.after.now c.in-Some.ensures.0 c.in-Some.ensures.1 entry.0.now entry.1.now
    is.0 is.1 (entries_in text) c.self.invariant).1

pub returns : goal.returns
returns c =
    let text = c.self.inside.text.now in
    let entry = c.in-Some-entry_of.entry in
    let is = c.in-Some-entry_of.ensures in
    sym c.self.view_is ∙ (passed text c.in-Some.line.now c.in-Some.after.now c.in-Some.ensures.0 c.in-Some.ensures.1
    entry.0.now entry.1.now is.0 is.1 (entries_in text) c.self.invariant).0
