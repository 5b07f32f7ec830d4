-- What the fields of a head say: their values by name, and the length of the body.
use Rattle.std.specs.Prelude.{ℕ, ◌&&◌, Bool, List, [], ◌∷◌, ⊤, length, take, map, codes, ◌≡◌, cond, nat_lt, nat_le}
use Rattle.std.specs.Prelude.{Result, Ok, Err}
use Rattle.std.specs.List.{list_all}
use Rattle.std.specs.Char.{is_ascii_digit}
use Rattle.std.specs.Str.{str_eq_ignore_ascii_case}
use Rattle.std.specs.Str.Parse.{digits_value}
use Rattle.httparse.specs.Grammar.{RequestHead}
use Rattle.httparse.specs.Spans.{header_bytes, name_and_value}
use Rattle.wire_server.specs.declared.head.Head.{Head}
use Rattle.wire_server.specs.declared.error.Fault.{Fault}
use Rattle.wire_server.specs.declared.error.Fault.TheVariants.{BadLength, TooLarge}
use Rattle.wire_server.specs.declared.fields.Values.{Values}
use Rattle.wire_server.specs.declared.fields.Values.TheVariants.{None, One, More}

-- a name and a value without the white space round it, in the order of the head
abbrev pub Fields : Type 0
Fields = List (List ℕ × List ℕ)

-- the fields of a head
abbrev pub fields_of : RequestHead → Fields
fields_of h = map name_and_value h.fields

-- the fields of a head by their places in a buffer
abbrev pub fields_at : List ℕ → Head → Fields
fields_at buf head = map (header_bytes buf) (take head.spans.headers head.fields)

-- the values of the fields of a name, without regard to ASCII case
abbrev pub values : List ℕ → Fields → List (List ℕ)
values name [] = []
values name (f ∷ fs) = cond (str_eq_ignore_ascii_case f.0 name) (f.1 ∷ values name fs) (values name fs)

-- no value, this one value, or more than one
abbrev pub Are : List (List ℕ) → Values → Type 0
Are [] None = ⊤
Are (v ∷ []) (One w) = w.now ≡ v
Are (v ∷ w ∷ vs) More = ⊤
Are _ _ = ⊥

-- ---- the length of a body

-- the most bytes of a body
abbrev pub max_body : ℕ
max_body = 20971520

-- one or more digits
abbrev pub is_number : List ℕ → Bool
is_number text = nat_lt 0 (length text) && list_all is_ascii_digit text

-- the length that a value states
abbrev pub stated : List ℕ → Result ℕ Fault
stated text =
    cond (is_number text) (cond (nat_le (digits_value 10 text) max_body) (Ok (digits_value 10 text)) (Err TooLarge))
    (Err BadLength)

-- the length of the body, by the values of `transfer-encoding` and of `content-length`
abbrev pub length_by : List (List ℕ) → List (List ℕ) → Result ℕ Fault
length_by [] [] = Ok 0
length_by [] (text ∷ []) = stated text
length_by [] (a ∷ b ∷ texts) = Err BadLength
length_by (coding ∷ codings) texts = Err BadLength

-- the length of the body
abbrev pub body_length : Fields → Result ℕ Fault
body_length fields = length_by (values (codes "transfer-encoding") fields) (values (codes "content-length") fields)
