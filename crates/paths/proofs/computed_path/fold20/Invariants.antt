use Rattle.std.proofs.Common.{◌≡◌, ℕ, ◌<◌, length, get_or}
use Rattle.paths.proofs.Folds.{byte_pair}
use Rattle.paths.proofs.computed_path.fold20.Given as goal

abbrev pub invariant-loop-i : goal.invariant-loop-i
invariant-loop-i l = record {
  full : length l.folded ≡ 20;
  done : (k : ℕ) → k < l.i → get_or l.folded k 0 ≡ byte_pair l.digest k;
}
