use Rattle.std.proofs.Common.{◌≡◌, Less}
use Rattle.std.specs.Ordering.{int_cmp}
use Rattle.std.specs.List.{AllAdjacentBelow}
use Rattle.tables_recognize.proofs.rowids.rise.Given as goal

abbrev pub invariant-loop-at : goal.invariant-loop-at
invariant-loop-at l = AllAdjacentBelow (λ x y. int_cmp x y ≡ Less) l.ids l.at
