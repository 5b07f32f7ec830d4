-- Lists and flags of numbers.
use Rattle.std.specs.Prelude.{ℕ, Bool, false, ◌==◌, List, []}
use Rattle.std.specs.List.{list_any, slice_index_or}

-- the list of a number, which is empty beyond the last list
abbrev pub list_at : List (List ℕ) → ℕ → List ℕ
list_at lists i = slice_index_or lists i []

-- whether a number is listed with another
abbrev pub has : List (List ℕ) → ℕ → ℕ → Bool
has lists i x = list_any (λ y. y == x) (list_at lists i)

-- whether a number has a flag
abbrev pub flag_at : List Bool → ℕ → Bool
flag_at flags i = slice_index_or flags i false
