-- Live and dead paths add up to all.
use Rattle.std.proofs.Common.{not, refl}
use Rattle.std.proofs.lemmas.List.Filters.{length-filter_both, sum_by-filter_both}
use Rattle.policy.specs.Settings.{Settings}
use Rattle.model.specs.World.{World, all_paths}
use Rattle.model.specs.Liveness.{lives, live_paths, dead_paths, size_of, usage_of}
use Rattle.laws.specs.Laws.{UsageAddsUp}

pub adds_up : (s : Settings) (w : World)
    → UsageAddsUp (usage_of w (live_paths s w)) (usage_of w (dead_paths s w)) (usage_of w (all_paths w))
adds_up s w = record {
  paths = length-filter_both (lives s w) (λ p. not (lives s w p)) (λ p. refl) (all_paths w);
  bytes = sum_by-filter_both (lives s w) (λ p. not (lives s w p)) (λ p. refl) (size_of w) (all_paths w);
}
