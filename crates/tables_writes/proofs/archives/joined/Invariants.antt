use Rattle.std.proofs.Common.{◌≡◌, ◌++◌}
use Rattle.std.specs.List.{flat_map}
use Rattle.tables_rows.specs.declared.pieces.Piece.{Piece}
use Rattle.tables_writes.proofs.archives.joined.Given as goal

-- what is copied, and what is left
abbrev pub invariant-further : goal.invariant-further
invariant-further l =
    l.nar ++ flat_map (λ (p : Piece). p.bytes.items) l.piece-iterator.rest.items
    ≡ l.fn.row.items ++ flat_map (λ (p : Piece). p.bytes.items) l.fn.further.items
