-- The parts of a target.
use Rattle.std.specs.Prelude.{ℕ, zero, suc, ◌+◌, ◌==◌, List, [], ◌∷◌, ◌++◌, Bool, cond, codes}
use Rattle.std.specs.List.{before_first, after_first}
use Rattle.std.specs.Str.{bytes_eq}

abbrev pub is_slash : ℕ → Bool
is_slash b = b == 47

-- what follows the first slashes, of a given number, or nothing where there are fewer
abbrev pub after_slashes : ℕ → List ℕ → List ℕ
after_slashes zero text = text
after_slashes (suc n) text = after_first is_slash (after_slashes n text)

-- the part after a number of slashes, up to the next: part 2 of `/info/x` is `x`
abbrev pub part : ℕ → List ℕ → List ℕ
part n text = before_first is_slash (after_slashes n text)

-- ---- parameters by their names

-- how many slashes come before the part of a text that is a word, after some of its parts and the beginning of the next
abbrev pub place_from : ℕ → List ℕ → List ℕ → List ℕ → ℕ
place_from n part word [] = cond (bytes_eq part word) n (n + 1)
place_from n part word (b ∷ text) =
    cond (is_slash b) (cond (bytes_eq part word) n (place_from (n + 1) [] word text))
    (place_from n (part ++ b ∷ []) word text)

-- what a target has in place of a parameter of its route's text
abbrev pub parameter : List ℕ → List ℕ → List ℕ → List ℕ
parameter name text target = part (place_from 0 [] (codes "{" ++ name ++ codes "}") text) target

abbrev pub path : List ℕ → List ℕ → List ℕ
path text target = parameter (codes "path") text target

abbrev pub user : List ℕ → List ℕ → List ℕ
user text target = parameter (codes "user") text target

abbrev pub name : List ℕ → List ℕ → List ℕ
name text target = parameter (codes "name") text target

abbrev pub number : List ℕ → List ℕ → List ℕ
number text target = parameter (codes "n") text target

abbrev pub session : List ℕ → List ℕ → List ℕ
session text target = parameter (codes "s") text target
