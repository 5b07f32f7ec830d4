use Rattle.std.specs.Prelude.{◌≡◌, ◌+◌, drop, length}
use Rattle.tables_load_objects.specs.Cut.{continues, parts_of}
use Rattle.tables_load_objects.proofs.piece_sizes.go_on.Given as goal

-- what is left decides
abbrev pub invariant-pieces : goal.invariant-pieces
invariant-pieces l = record {
  number : l.number ≡ l.piece-index + 1;
  decides : continues l.size l.number (parts_of (drop l.piece-index l.pieces))
      ≡ continues (length l.row) 1 (parts_of l.pieces);
}
