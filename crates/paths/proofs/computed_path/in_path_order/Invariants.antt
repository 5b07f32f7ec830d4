use Rattle.std.proofs.Common.{◌≡◌, take, map}
use Rattle.paths.proofs.computed_path.in_path_order.Given as goal

abbrev pub invariant-loop-path : goal.invariant-loop-path
invariant-loop-path l = map (λ s. s.now) l.bases.items ≡ take l.path-index l.refs
