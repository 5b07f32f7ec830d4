-- How an archive is cut: the bytes of its object's row, and its further pieces, which are numbered from 1.
use Rattle.std.specs.Prelude.{◌≡◌, ℕ, ◌+◌, ◌≤◌, ℤ, pos, List, [], ◌∷◌, length, take, drop}
use Rattle.std.specs.List.{flat_map}

-- the most bytes of an archive in one row
unfoldable pub piece_size : ℕ
piece_size = 65536

-- the bytes of some pieces, one after another
abbrev pub joined : List (ℤ × List ℕ) → List ℕ
joined pieces = flat_map (λ e. e.1) pieces

-- After a part of an archive its further pieces, the next of which has this number: a part that another follows has
-- 65,536 bytes, the last has no more, and none but the first part is empty.
abbrev pub GoOn : List ℕ → ℕ → List (ℤ × List ℕ) → Type 0
GoOn part n [] = length part ≤ piece_size
GoOn part n (e ∷ es) = (length part ≡ piece_size) × (e.0 ≡ pos n) × (1 ≤ length e.1) × GoOn e.1 (n + 1) es

-- a row and further pieces are an archive cut the right way
abbrev pub IsCut : List ℕ → List (ℤ × List ℕ) → Type 0
IsCut row pieces = GoOn row 1 pieces

-- ---- cuts of archives, by functions that compute

-- what an object's row holds of its archive
abbrev pub row_part : List ℕ → List ℕ
row_part nar = take piece_size nar

-- some bytes in pieces, the first of which has this number: at most as many as turns
abbrev pub pieces_by : (turns : List ℕ) → ℕ → List ℕ → List (ℤ × List ℕ)
pieces_by [] n bytes = []
pieces_by (turn ∷ turns) n [] = []
pieces_by (turn ∷ turns) n (b ∷ bs) =
    (pos n, take piece_size (b ∷ bs)) ∷ pieces_by turns (n + 1) (drop piece_size (b ∷ bs))

-- the further pieces of an archive; each has a byte, so there are no more than bytes
abbrev pub further_pieces : List ℕ → List (ℤ × List ℕ)
further_pieces nar = pieces_by nar 1 (drop piece_size nar)
