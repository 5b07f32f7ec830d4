-- The result of reading from the beginning, as functions on bytes. They needn't be trusted: the laws relate the last
-- of them to the text that a derivation is written as.
use Rattle.std.specs.Prelude.{ℕ, zero, suc, ◌+◌, ◌==◌, ◌&&◌, Bool, true, false, List, [], ◌∷◌, ◌++◌, length, drop}
use Rattle.std.specs.Prelude.{codes, Option, Some, None, option_map, if◌then◌else◌}
use Rattle.paths.specs.Names.{is_store_name, begins}
use Rattle.paths.specs.StorePath.{is_base_name}

infixl 10 ◌>>=◌
abbrev pub ◌>>=◌ : {A B : Type 0} → Option A → (A → Option B) → Option B
(Some x) >>= f = f x
None >>= f = None

-- what follows this byte, where it comes first
abbrev pub after : ℕ → List ℕ → Option (List ℕ)
after byte [] = None
after byte (b ∷ rest) = if b == byte then Some rest else None

-- ---- strings

-- the byte that a letter after a backslash means
abbrev pub unescaped : ℕ → Option ℕ
unescaped letter =
    if letter == 34 then Some 34
    else if letter == 92 then Some 92
    else if letter == 110 then Some 10
    else if letter == 114 then Some 13
    else if letter == 116 then Some 9
    else None

abbrev pub with_byte : ℕ → Option (List ℕ × List ℕ) → Option (List ℕ × List ℕ)
with_byte b (Some x) = Some (b ∷ x.0, x.1)
with_byte b None = None

-- the bytes that are meant up to the quote that ends a string, and what follows it; after a backslash, or not
unfoldable pub body_at : Bool → List ℕ → Option (List ℕ × List ℕ)
body_at escaped [] = None
body_at true (b ∷ rest) = unescaped b >>= λ byte. with_byte byte (body_at false rest)
body_at false (b ∷ rest) =
    if b == 34 then Some ([], rest)
    else if b == 92 then body_at true rest
    else with_byte b (body_at false rest)

unfoldable pub string_at : List ℕ → Option (List ℕ × List ℕ)
string_at text = after 34 text >>= λ body. body_at false body

-- what follows, without the value that was read
abbrev pub rest_of : {A : Type 0} → Option (A × List ℕ) → Option (List ℕ)
rest_of read = option_map (λ x. x.1) read

unfoldable pub string_end : List ℕ → Option (List ℕ)
string_end text = rest_of (string_at text)

-- ---- lists

abbrev pub closed_or : {A : Type 0} → Option (List ℕ) → Option (List A × List ℕ) → Option (List A × List ℕ)
closed_or (Some rest) read = Some ([], rest)
closed_or None read = read

abbrev pub with_item : {A : Type 0} → A → Option (List A × List ℕ) → Option (List A × List ℕ)
with_item x (Some y) = Some (x ∷ y.0, y.1)
with_item x None = None

-- with items before it
abbrev pub with_items : {A : Type 0} → List A → Option (List A × List ℕ) → Option (List A × List ℕ)
with_items before (Some y) = Some (before ++ y.0, y.1)
with_items before None = None

-- the items that come with a comma before each, up to the closing bracket; at most as many as are counted
unfoldable pub rest_of_items : {A : Type 0} → (List ℕ → Option (A × List ℕ)) → ℕ → List ℕ → Option (List A × List ℕ)
rest_of_items item zero text = None
rest_of_items item (suc count) text =
    closed_or (after 93 text) (after 44 text >>= λ t. item t >>= λ x. with_item x.0 (rest_of_items item count x.1))

unfoldable pub list_at : {A : Type 0} → (List ℕ → Option (A × List ℕ)) → List ℕ → Option (List A × List ℕ)
list_at item text =
    after 91 text >>= λ t. closed_or (after 93 t) (item t >>= λ x. with_item x.0 (rest_of_items item (length x.1) x.1))

-- what was read, without its items
abbrev pub bare : Option (List ℕ) → Option (Unit {0} × List ℕ)
bare (Some rest) = Some (tt, rest)
bare None = None

abbrev pub without_value : (List ℕ → Option (List ℕ)) → List ℕ → Option (Unit {0} × List ℕ)
without_value item text = bare (item text)

unfoldable pub list_end : (List ℕ → Option (List ℕ)) → List ℕ → Option (List ℕ)
list_end item text = rest_of (list_at (without_value item) text)

-- ---- the parts of a derivation

-- one after the other
infixl 20 ◌>=>◌
abbrev pub ◌>=>◌ : (List ℕ → Option (List ℕ)) → (List ℕ → Option (List ℕ)) → List ℕ → Option (List ℕ)
(first >=> second) text = first text >>= second

-- after a comma
unfoldable pub further : (List ℕ → Option (List ℕ)) → List ℕ → Option (List ℕ)
further part text = after 44 text >>= part

unfoldable pub variable_end : List ℕ → Option (List ℕ)
variable_end = after 40 >=> string_end >=> further string_end >=> after 41

unfoldable pub input_end : List ℕ → Option (List ℕ)
input_end = after 40 >=> string_end >=> further (list_end string_end) >=> after 41

-- a store name
abbrev pub name_in : List ℕ → Option (List ℕ)
name_in bytes = if is_store_name bytes then Some bytes else None

unfoldable pub name_at : List ℕ → Option (List ℕ × List ℕ)
name_at text = string_at text >>= λ x. name_in x.0 >>= λ name. Some (name, x.1)

-- the base name of a full path in the store directory
unfoldable pub base_in : List ℕ → List ℕ → Option (List ℕ)
base_in dir text =
    if begins text (dir ++ codes "/") && is_base_name (drop (length dir + 1) text)
    then Some (drop (length dir + 1) text) else None

-- the path of an output, if it has one
abbrev pub path_in : List ℕ → List ℕ → Option (Option (List ℕ))
path_in dir [] = Some None
path_in dir (b ∷ text) = option_map (λ base. Some base) (base_in dir (b ∷ text))

unfoldable pub path_at : List ℕ → List ℕ → Option (Option (List ℕ) × List ℕ)
path_at dir text = string_at text >>= λ x. path_in dir x.0 >>= λ path. Some (path, x.1)

-- the method and the hash of an output
unfoldable pub hash_end : List ℕ → Option (List ℕ)
hash_end = further string_end >=> further string_end >=> after 41

unfoldable pub output_at : List ℕ → List ℕ → Option ((List ℕ × Option (List ℕ)) × List ℕ)
output_at dir text =
    after 40 text >>= λ t. name_at t >>= λ name. after 44 name.1 >>= λ t. path_at dir t >>= λ path.
    hash_end path.1 >>= λ rest. Some ((name.0, path.0), rest)

-- `Derive(`
unfoldable pub after_derive : List ℕ → Option (List ℕ)
after_derive = after 68 >=> after 101 >=> after 114 >=> after 105 >=> after 118 >=> after 101 >=> after 40

-- what comes after the outputs
unfoldable pub inputs_end : List ℕ → Option (List ℕ)
inputs_end = further (list_end input_end) >=> further (list_end string_end)

unfoldable pub process_end : List ℕ → Option (List ℕ)
process_end =
    further string_end >=> further string_end >=> further (list_end string_end) >=> further (list_end variable_end)
    >=> after 41

abbrev pub if_ended : {A : Type 0} → A → List ℕ → Option A
if_ended x [] = Some x
if_ended x (b ∷ rest) = None

-- the outputs of a whole text
unfoldable pub listed : List ℕ → List ℕ → Option (List (List ℕ × Option (List ℕ)))
listed dir text =
    after_derive text >>= λ t. list_at (output_at dir) t >>= λ outputs. inputs_end outputs.1 >>= λ t. process_end t
    >>= λ rest.
    if_ended outputs.0 rest
