use Rattle.std.proofs.Common.{length, [], ◌∙◌}
use Rattle.wire_bodies.proofs.Reading.{no_entry, one_line, not_empty, nothing_in, nothing_read}
use Rattle.wire_bodies.proofs.Passing.{prefix_is, lines_are, no_line, read_whole}
use Rattle.wire_bodies.proofs.parts.parts_of.Goals as goal

pub lines-init : goal.lines-init
lines-init c = ([], nothing_read c.args.text.now)

pub returns-in_default-entry_of : goal.returns-in_default-entry_of
returns-in_default-entry_of c =
    let line = c.in-Some.line.now in
    let read = c.lines.invariant in
    let some = not_empty (length line) c.is_empty.result c.is_empty.ensures c.if-is_empty.false in
    let none = rw c.in_default-entry_of.is at c.entry_of.ensures in
    no_entry c.args.text.now read.0 c.lines.rest.now line c.in-Some.after.now read.1 c.in-Some.ensures.0
    c.in-Some.ensures.1 some none

pub lines-preserved : goal.lines-preserved
lines-preserved c =
    let line = c.in-Some.line.now in
    let entry = c.in-Some-entry_of.field-0 in
    let read = c.lines.invariant in
    let some = not_empty (length line) c.is_empty.result c.is_empty.ensures c.if-is_empty.false in
    let is = c.in-Some-entry_of.ensures in (
      _,
      one_line c.args.text.now read.0 c.lines.rest.now line c.in-Some.after.now entry.0.now entry.1.now read.1
          c.in-Some.ensures.0 c.in-Some.ensures.1 some is.0 is.1 is.2,
    )

pub returns-in_default : goal.returns-in_default
returns-in_default c =
    let read = c.lines.invariant in
    no_line c.args.text.now read.0 c.lines.rest.now read.1 (rw c.in_default.is at c.first_line.ensures)

pub invariant_of-result : goal.invariant_of-result
invariant_of-result c =
    let read = c.lines.invariant in
    let prefix = c.split_at.ensures.front ∙ prefix_is c.args.text.now read.0 c.lines.rest.now read.1 in
    (lines_are c.split_at.result.0.now read.0 read.1.entries prefix).1

pub returns-then-is_empty : goal.returns-then-is_empty
returns-then-is_empty c =
    let read = c.lines.invariant in
    let line = c.in-Some.line.now in
    let prefix = c.split_at.ensures.front ∙ prefix_is c.args.text.now read.0 c.lines.rest.now read.1 in
    read_whole c.args.text.now read.0 c.lines.rest.now line c.in-Some.after.now c.split_at.result.0.now read.1
    c.in-Some.ensures.0 (nothing_in line c.is_empty.result c.is_empty.ensures c.if-is_empty.true) prefix
