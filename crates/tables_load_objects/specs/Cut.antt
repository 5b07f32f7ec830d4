-- The pieces of an archive, as rows list them, and the test of how it is cut.
use Rattle.std.specs.Prelude.{ℕ, ◌+◌, ◌==◌, nat_le, ℤ, pos, negsuc, Bool, false, ◌&&◌, List, [], ◌∷◌, ◌++◌, map, length}
use Rattle.std.specs.Prelude.{not}
use Rattle.tables_sql.specs.Contents.{Stored}
use Rattle.tables_rows.specs.declared.pieces.Piece.{Piece}
use Rattle.tables_world.specs.Pieces.{joined}

-- the number and the bytes of a piece
abbrev pub part_of : Piece → ℤ × List ℕ
part_of e = (e.number, e.bytes.items)

abbrev pub parts_of : List Piece → List (ℤ × List ℕ)
parts_of pieces = map part_of pieces

-- an object with the bytes of its row and of its pieces
abbrev pub whole_of : Stored → List (ℤ × List ℕ) → Stored
whole_of o parts = record o { nar = o.nar ++ joined parts }

-- a piece's number is this
abbrev pub is_number : ℤ → ℕ → Bool
is_number (pos n) number = n == number
is_number (negsuc n) number = false

-- a part of `n` bytes may be followed by a piece, which has this number and some bytes
abbrev pub is_next : ℕ → ℕ → ℤ × List ℕ → Bool
is_next size number e = size == 65536 && (is_number e.0 number && not (length e.1 == 0))

-- a part of `n` bytes and the pieces after it, the first of which has this number, are cut the right way
abbrev pub continues : ℕ → ℕ → List (ℤ × List ℕ) → Bool
continues size number [] = nat_le size 65536
continues size number (e ∷ es) = is_next size number e && continues (length e.1) (number + 1) es
