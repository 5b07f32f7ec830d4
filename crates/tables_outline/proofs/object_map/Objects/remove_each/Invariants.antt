use Rattle.std.proofs.Common.{◌≡◌, drop, not}
use Rattle.std.specs.FinMap as finite
use Rattle.live.specs.Graph.{holds}
use Rattle.tables_outline.proofs.object_map.Objects.remove_each.Given as goal

-- what is left to remove
abbrev pub invariant-loop-path : goal.invariant-loop-path
invariant-loop-path l =
    finite.retain_keys l.self (λ p. not (holds (drop l.path-index l.paths) p))
    ≡ finite.retain_keys l.fn.self (λ p. not (holds l.paths p))
