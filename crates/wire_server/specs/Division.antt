-- The messages that a whole input divides into.
use Rattle.std.specs.Prelude.{◌≡◌, ℕ, ◌<◌, ◌==◌, ◌||◌, Bool, List, [], ◌∷◌, length, codes, cond}
use Rattle.std.specs.List.{list_any}
use Rattle.std.specs.Str.{str_eq_ignore_ascii_case}
use Rattle.httparse.specs.Grammar.{RequestHead}
use Rattle.wire_server.specs.Fields.{fields_of, values}
use Rattle.wire_server.specs.Messages.{IsMessage, IsFault}
use Rattle.wire_server.specs.declared.error.Fault.{Fault}

pub data Item : Type 0 where
  -- a head and a body
  message : RequestHead → List ℕ → Item
  faulty : Fault → Item

-- the connection is closed after this message
abbrev pub closes : RequestHead → Bool
closes h = (h.minor == 0)
    || list_any (λ v. str_eq_ignore_ascii_case v (codes "close")) (values (codes "connection") (fields_of h))

-- The input divides from its beginning into these items, up to its end, to the first message that closes the
-- connection, or to a fault.
abbrev pub Divides : List ℕ → List Item → Type 0
Divides input [] = input ≡ []
Divides input (message h body ∷ items) =
    (rest : List ℕ) × IsMessage input h body rest × cond (closes h) (items ≡ []) (Divides rest items)
Divides input (faulty fault ∷ items) = (0 < length input) × IsFault input fault × (items ≡ [])

-- An input divides in one way.
abbrev pub DividesOnce : Type 0
DividesOnce = (input : List ℕ) (a b : List Item) → Divides input a → Divides input b → a ≡ b
