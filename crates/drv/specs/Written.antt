-- Strings of a derivation text: the bytes that are meant, each as it is written.
use Rattle.std.specs.Prelude.{◌≡◌, ℕ, ◌==◌, ◌&&◌, Bool, true, not, List, [], ◌∷◌, ◌++◌, map}
use Rattle.std.specs.List.{flat_map}

-- any byte but `"` and `\`
abbrev pub is_plain : ℕ → Bool
is_plain b = not (b == 34) && not (b == 92)

-- A byte as it is written: a plain one as itself, or one of the five that are written after a backslash.
pub data Written : Type 0 where
  itself : (b : ℕ) → is_plain b ≡ true → Written
  quote : Written
  backslash : Written
  line_feed : Written
  carriage_return : Written
  tab : Written

-- how it is written in the text
abbrev pub written : Written → List ℕ
written (itself b plain) = b ∷ []
written quote = 92 ∷ 34 ∷ []
written backslash = 92 ∷ 92 ∷ []
written line_feed = 92 ∷ 110 ∷ []
written carriage_return = 92 ∷ 114 ∷ []
written tab = 92 ∷ 116 ∷ []

-- the byte that is meant
abbrev pub meant : Written → ℕ
meant (itself b plain) = b
meant quote = 34
meant backslash = 92
meant line_feed = 10
meant carriage_return = 13
meant tab = 9

-- a string in quotes
unfoldable pub string : List Written → List ℕ
string bytes = 34 ∷ (flat_map written bytes ++ 34 ∷ [])

-- the bytes that a string means
unfoldable pub value : List Written → List ℕ
value bytes = map meant bytes
