use Rattle.std.proofs.Common.{◌≡◌, ◌*◌, ◌≤◌, take}
use Rattle.store_reach.specs.Sizes.{bytes_within}
use Rattle.store_reach.proofs.sizes.sum_of.Given as goal

-- the bytes of the first, of which none has more than a length can say
abbrev pub invariant-loop-path : goal.invariant-loop-path
invariant-loop-path l = record {
  sum : l.bytes ≡ bytes_within l.outline (take l.path-index l.paths);
  small : l.bytes ≤ 18446744073709551615 * l.path-index;
}
