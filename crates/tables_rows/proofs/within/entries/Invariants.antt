use Rattle.std.proofs.Common.{◌≡◌, true, take, length}
use Rattle.std.specs.List.{AllZip, AllAdjacentBelow}
use Rattle.tables_rows.proofs.within.entries.Given as goal

abbrev pub invariant-rows : goal.invariant-rows
invariant-rows g l =
    AllZip g.T.Entry.is_shown (take l.row-index l.rows) l.all.items
    × AllAdjacentBelow (λ x y. true ≡ g.T.Entry.is_below x y) l.all.items (length l.all.items)
