use Rattle.std.proofs.Common.{◌≡◌, ℕ, List, length, ◌+◌, ◌*◌}
use Rattle.nar.specs.Tree.{IsBytes}
use Rattle.nar.specs.Progress.{HasReadBefore, turns}
use Rattle.nar.proofs.checker.Checker.take.Given as goal

abbrev pub invariant-pieces : goal.invariant-pieces
invariant-pieces l = record {
  has_read : (all : List ℕ) → IsBytes all → HasReadBefore l.fn.self.progress l.fn.piece all
      → HasReadBefore l.self.progress l.rest all;
  failed : l.self.failed ≡ l.fn.self.failed;
}

abbrev pub decreases-pieces : goal.decreases-pieces
decreases-pieces l = 2 * length l.rest + turns l.self.progress
