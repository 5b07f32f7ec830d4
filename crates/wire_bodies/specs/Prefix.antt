-- The prefix of a text: its lines up to and with the first empty one. What follows is the rest of the text.
use Rattle.std.specs.Prelude.{◌≡◌, ℕ, ◌==◌, List, [], ◌∷◌, cond}
use Rattle.wire_bodies.specs.declared.prefix.Place.{Place}
use Rattle.wire_bodies.specs.declared.prefix.Place.TheVariants.{BeginsLine, WithinLine, AfterPrefix}

-- the place after one more byte: a line feed (10) ends a line, and the prefix too if the line is empty
abbrev pub next : Place → ℕ → Place
next BeginsLine b = cond (b == 10) AfterPrefix WithinLine
next WithinLine b = cond (b == 10) BeginsLine WithinLine
next AfterPrefix b = AfterPrefix

-- the place after a text
abbrev pub place_after : Place → List ℕ → Place
place_after place [] = place
place_after place (b ∷ text) = place_after (next place b) text

-- the part of a text, which begins at this place, that belongs to the prefix
abbrev pub prefix_from : Place → List ℕ → List ℕ
prefix_from AfterPrefix text = []
prefix_from place [] = []
prefix_from place (b ∷ text) = b ∷ prefix_from (next place b) text

-- the part of a text, which begins at this place, that follows the prefix
abbrev pub rest_from : Place → List ℕ → List ℕ
rest_from AfterPrefix text = text
rest_from place [] = []
rest_from place (b ∷ text) = rest_from (next place b) text

-- the prefix of a text: its lines up to and with the first empty one, or all of it if it has no empty line
abbrev pub prefix_of : List ℕ → List ℕ
prefix_of text = prefix_from BeginsLine text

-- the rest of a text, after the prefix
abbrev pub rest_of : List ℕ → List ℕ
rest_of text = rest_from BeginsLine text

-- ---- inside the crate

-- bytes that are a prefix, at whose end this is the place
pub record IsPrefix (bytes : List ℕ) (place : Place) : Type 0 where
  pub whole : prefix_of bytes ≡ bytes
  pub next_place : place_after BeginsLine bytes ≡ place
