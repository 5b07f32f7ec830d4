use Rattle.std.proofs.Common.{ℕ, ◌<◌, IsTrue}
use Rattle.live.specs.Remainder.{is_in}
use Rattle.live.proofs.remainder.Remaining.least_dead.Given as goal

abbrev pub invariant-loop-place : goal.invariant-loop-place
invariant-loop-place l = (t : ℕ) → t < l.place → IsTrue (is_in l.self.dead t) → IsTrue (is_in l.self.left t) → ⊥
