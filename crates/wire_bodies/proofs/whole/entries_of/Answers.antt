use Rattle.std.proofs.Common.{rules, ◌≡◌, []}
use Rattle.wire_bodies.specs.Lines.{spelled}
use Rattle.wire_bodies.proofs.Reading.{reads_once}
use Rattle.wire_bodies.proofs.whole.entries_of.Goals as goal

pub returns-else-is_empty-clause-bad : goal.returns-else-is_empty-clause-bad
returns-else-is_empty-clause-bad c = λ same es is.
    let none : [] ≡ c.in-Some.parts.payload.now =
    (reads_once (spelled c.args.body.now) es c.in-Some.parts.entries [] c.in-Some.parts.payload.now is
    c.in-Some.ensures).1 in
    search rules
