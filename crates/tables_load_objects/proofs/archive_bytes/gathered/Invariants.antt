use Rattle.std.specs.Prelude.{◌≡◌, ◌++◌}
use Rattle.tables_world.specs.Pieces.{joined}
use Rattle.tables_load_objects.specs.Cut.{parts_of}
use Rattle.tables_load_objects.proofs.archive_bytes.gathered.Given as goal

-- what is copied, and what is left
abbrev pub invariant-pieces : goal.invariant-pieces
invariant-pieces l =
    l.all ++ joined (parts_of l.piece-iterator.rest.items) ≡ l.fn.row.items ++ joined (parts_of l.fn.pieces.items)
