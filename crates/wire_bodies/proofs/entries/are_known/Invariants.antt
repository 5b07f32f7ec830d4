use Rattle.std.proofs.Common.{◌≡◌, true, length}
use Rattle.wire_bodies.specs.Values.{are_known, texts}
use Rattle.wire_bodies.proofs.Passing.{Sofar}
use Rattle.wire_bodies.proofs.entries.are_known.Given as goal

abbrev pub invariant-lines : goal.invariant-lines
invariant-lines l = Sofar (λ es. are_known (texts l.keys) es ≡ true) l.entries l.left

abbrev pub decreases-lines : goal.decreases-lines
decreases-lines l = length l.left
