-- The usage report: how many live, dead and all paths there are, and how many bytes their archives have.
use Rattle.std.specs.Prelude.{ℕ, ◌-◌, List, ◌++◌, length, replicate, codes, decimal}
use Rattle.model.specs.Reply.{Usage}

-- a text at the left of a column, and at the right; a longer text takes the places that it needs
abbrev pub left_in : ℕ → List ℕ → List ℕ
left_in width text = text ++ replicate (width - length text) 32

abbrev pub right_in : ℕ → List ℕ → List ℕ
right_in width text = replicate (width - length text) 32 ++ text

-- a word in 6 places, a number of paths in 10 and one of bytes in 16, with a space between
abbrev pub columns : List ℕ → List ℕ → List ℕ → List ℕ
columns word paths bytes =
    left_in 6 word ++ codes " " ++ right_in 10 paths ++ codes " " ++ right_in 16 bytes ++ codes "\n"

abbrev pub usage_line : List ℕ → Usage → List ℕ
usage_line word u = columns word (decimal u.paths) (decimal u.bytes)

-- the text: a header, and a line for the live, the dead and all paths
abbrev pub usage_text : Usage → Usage → Usage → List ℕ
usage_text live dead total =
    columns (codes "class") (codes "paths") (codes "bytes")
    ++ usage_line (codes "live") live
    ++ usage_line (codes "dead") dead
    ++ usage_line (codes "total") total
