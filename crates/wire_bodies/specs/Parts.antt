-- The answer of the function that divides a body.
use Rattle.std.specs.Prelude.{ℕ, List, Option, Some, None}
use Rattle.wire_bodies.specs.Lines.{Entry, Reads}
use Rattle.wire_bodies.specs.declared.parts.Body.{Body}

-- the entries and the payload, or that the text isn't a body
abbrev pub BodyOf : List ℕ → Option Body → Type 0
BodyOf text None = (es : List Entry) (payload : List ℕ) → Reads text es payload → ⊥
BodyOf text (Some body) = Reads text body.entries body.payload.now
