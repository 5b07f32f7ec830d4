use Rattle.std.proofs.Common.{length}
use Rattle.wire_bodies.specs.Values.{Are, values}
use Rattle.wire_bodies.proofs.Passing.{Sofar}
use Rattle.wire_bodies.proofs.entries.find_value.Given as goal

abbrev pub invariant-lines : goal.invariant-lines
invariant-lines l = Sofar (λ es. Are (values l.key es) l.found) l.entries l.left

abbrev pub decreases-lines : goal.decreases-lines
decreases-lines l = length l.left
