use Rattle.std.proofs.Common.{length, List}
use Rattle.wire_bodies.specs.Lines.{Entry}
use Rattle.wire_bodies.proofs.Reading.{Read}
use Rattle.wire_bodies.proofs.parts.parts_of.Given as goal

abbrev pub invariant-lines : goal.invariant-lines
invariant-lines l = (es : List Entry) × Read l.text es l.rest

abbrev pub decreases-lines : goal.decreases-lines
decreases-lines l = length l.rest
