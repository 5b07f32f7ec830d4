use Rattle.std.proofs.Common.{◌≡◌, ◌<◌, ℕ, false}
use Rattle.std.specs.List.{slice_index}
use Rattle.live.specs.Reaching.{is_marked}
use Rattle.live.proofs.back_walk.Reaching.first_root.Given as goal

abbrev pub invariant-loop-root : goal.invariant-loop-root
invariant-loop-root l = (k : ℕ) → k < l.root → is_marked l.self (slice_index l.roots k) ≡ false
