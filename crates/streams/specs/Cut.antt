-- Bytes cut in pieces of 65,536.
use Rattle.std.specs.Prelude.{◌≡◌, ℕ, ◌+◌, ◌*◌, ◌/◌, ◌^◌, ◌<◌, ◌≤◌, List, ◌++◌, length, take, drop}
use Rattle.std.specs.List.{concat, AllByRecursion}

-- the piece at a place, counted from 0: 65,536 bytes, or as many as are left
unfoldable pub piece_of : ℕ → List ℕ → List ℕ
piece_of i bytes = take 65536 (drop (65536 * i) bytes)

-- how many pieces there are
abbrev pub count_of : List ℕ → ℕ
count_of bytes = (length bytes + 65535) / 65536

-- The whole pieces, with the last one appended; the number of their bytes fits a length.
pub record AreCut (whole : List (List ℕ)) (last : List ℕ) : Type 0 where
  pub each : AllByRecursion (λ p. length p ≡ 65536) whole
  pub last_fits : length last ≤ 65536
  pub small : length (concat whole ++ last) < 2 ^ 64
