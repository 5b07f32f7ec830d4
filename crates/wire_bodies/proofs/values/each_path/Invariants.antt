use Rattle.std.proofs.Common.{◌≡◌, Some, length}
use Rattle.wire_bodies.specs.Values.{values, each}
use Rattle.wire_bodies.specs.Kinds.{path_text}
use Rattle.wire_bodies.proofs.Passing.{Sofar}
use Rattle.wire_bodies.proofs.values.each_path.Given as goal

abbrev pub invariant-lines : goal.invariant-lines
invariant-lines l = Sofar (λ es. each (path_text l.dir) (values l.key es) ≡ Some l.paths.items) l.entries l.left

abbrev pub decreases-lines : goal.decreases-lines
decreases-lines l = length l.left
