use Rattle.std.proofs.Common.{◌≡◌, map, take}
use Rattle.store_reach.specs.Sizes.{size_in}
use Rattle.store_reach.proofs.collection.sizes.Given as goal

-- those of the first
abbrev pub invariant-loop-row : goal.invariant-loop-row
invariant-loop-row l = l.sizes.items ≡ map (λ r. size_in l.outline r.path.now) (take l.row-index l.rows)
