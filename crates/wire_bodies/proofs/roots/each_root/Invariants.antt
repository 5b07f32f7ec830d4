use Rattle.std.proofs.Common.{◌≡◌, Some, length}
use Rattle.wire_bodies.specs.Values.{values, each}
use Rattle.wire_bodies.specs.Kinds.{root_text}
use Rattle.wire_bodies.specs.Bodies.{labelled}
use Rattle.wire_bodies.proofs.Passing.{Sofar}
use Rattle.wire_bodies.proofs.roots.each_root.Given as goal

abbrev pub invariant-lines : goal.invariant-lines
invariant-lines l =
    Sofar (λ es. each (root_text l.dir) (values l.key es) ≡ Some (labelled l.roots.items)) l.entries l.left

abbrev pub decreases-lines : goal.decreases-lines
decreases-lines l = length l.left
