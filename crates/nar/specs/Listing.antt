-- The listing of a tree: one line a node, parents first, entries in order.
use Rattle.std.specs.Prelude.{ℕ, ◌+◌, ◌/◌, ◌%◌, List, [], ◌∷◌, ◌++◌, length, Bool, true, false, codes, nat_lt}
use Rattle.std.specs.Prelude.{if◌then◌else◌, ◌||◌, ◌==◌, decimal}
use Rattle.std.specs.List.{flat_map}
use Rattle.nar.specs.Tree.{Tree, regular, symlink, directory, Entries, no_entries, entry}

-- the lower case digit of a number below 16
abbrev pub hex_digit : ℕ → ℕ
hex_digit n = if nat_lt n 10 then 48 + n else 87 + n

-- a byte outside 33 to 126, and a backslash, in hexadecimal after a backslash and an x
abbrev pub escape : ℕ → List ℕ
escape b = if nat_lt b 33 || nat_lt 126 b || b == 92 then 92 ∷ 120 ∷ hex_digit (b / 16) ∷ hex_digit (b % 16) ∷ []
    else b ∷ []

-- a name or a target, each of its bytes escaped where it has to be
abbrev pub escaped : List ℕ → List ℕ
escaped text = flat_map escape text

-- how the line of a file begins: an x where it is executable
abbrev pub letter : Bool → List ℕ
letter true = codes "x "
letter false = codes "r "

-- the lines of a tree that is at this path, and of a directory's entries, the directory being at this path
abbrev mutual
  pub listing : List ℕ → Tree → List ℕ
  listing path (regular executable contents) =
      letter executable ++ decimal (length contents) ++ codes " " ++ path ++ codes "\n"
  listing path (symlink target) = codes "l " ++ path ++ codes " -> " ++ escaped target ++ codes "\n"
  listing path (directory es) = codes "d " ++ path ++ codes "\n" ++ lines path es

  pub lines : List ℕ → Entries → List ℕ
  lines path no_entries = []
  lines path (entry n t es) = listing (path ++ codes "/" ++ escaped n) t ++ lines path es
