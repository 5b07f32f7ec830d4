-- The lines of a body, and the payload after them.
use Rattle.std.specs.Prelude.{◌≡◌, ◌≢◌, ℕ, ◌<◌, ◌==◌, Bool, cond, List, [], ◌∷◌, ◌++◌, length, drop, slice_index}
use Rattle.std.specs.Prelude.{Option, Some, None, IsUtf8}
use Rattle.std.specs.Borrow.{Bor}
use Rattle.std.specs.List.{before_first, after_first}

-- the byte isn't in the text
abbrev pub IsWithout : ℕ → List ℕ → Type 0
IsWithout byte text = (i : ℕ) → i < length text → slice_index text i ≢ byte

-- a key and a value
abbrev pub Entry : Type 0
Entry = List ℕ × List ℕ

-- a line as it is written, without its line feed: a colon (58) and a space follow the key
abbrev pub entry_text : Entry → List ℕ
entry_text e = e.0 ++ 58 ∷ 32 ∷ e.1

-- the key has no colon, and the line is a text of one line
pub record IsEntry (e : Entry) : Type 0 where
  pub key : IsWithout 58 e.0
  pub line : IsWithout 10 (entry_text e)
  pub text : IsUtf8 (entry_text e)

-- a line for each entry
abbrev pub print_entries : List Entry → List ℕ
print_entries [] = []
print_entries (e ∷ es) = entry_text e ++ 10 ∷ print_entries es

-- each is an entry
abbrev pub AreEntries : List Entry → Type 0
AreEntries [] = Unit {0}
AreEntries (e ∷ es) = IsEntry e × AreEntries es

-- the text is the lines of these entries, an empty line and the payload
pub record Reads (text : List ℕ) (es : List Entry) (payload : List ℕ) : Type 0 where
  pub entries : AreEntries es
  pub whole : text ≡ print_entries es ++ 10 ∷ payload

-- the text is the lines of these entries
abbrev pub AreLines : List ℕ → List Entry → Type 0
AreLines text es = AreEntries es × (text ≡ print_entries es)

-- ---- the entries that lines stand for

abbrev pub is_colon : ℕ → Bool
is_colon b = b == 58

-- the key and the value of a line
abbrev pub entry_in : List ℕ → Entry
entry_in line = (before_first is_colon line, drop 1 (after_first is_colon line))

-- the entries of the lines of a text; the start of its first line is given apart
abbrev pub entries_from : List ℕ → List ℕ → List Entry
entries_from line [] = []
entries_from line (b ∷ text) =
    cond (b == 10) (entry_in line ∷ entries_from [] text) (entries_from (line ++ b ∷ []) text)

-- the entries of the lines of a text
abbrev pub entries_in : List ℕ → List Entry
entries_in text = entries_from [] text

-- an empty body means the empty line alone
abbrev pub spelled : List ℕ → List ℕ
spelled [] = 10 ∷ []
spelled (b ∷ body) = b ∷ body

-- ---- what the functions answer

-- the first line and what follows it, or that there is no whole line
abbrev pub FirstLine : List ℕ → Option (Bor (List ℕ) × Bor (List ℕ)) → Type 0
FirstLine text None = IsWithout 10 text
FirstLine text (Some parts) = (text ≡ parts.0.now ++ 10 ∷ parts.1.now) × IsWithout 10 parts.0.now

-- the key and the value of a line, or that it isn't an entry
abbrev pub EntryOf : List ℕ → Option (Bor (List ℕ) × Bor (List ℕ)) → Type 0
EntryOf line None = (k v : List ℕ) → line ≡ entry_text (k, v) → IsWithout 58 k → IsUtf8 line → ⊥
EntryOf line (Some parts) = (line ≡ entry_text (parts.0.now, parts.1.now)) × IsWithout 58 parts.0.now × IsUtf8 line

-- the first entry is returned, and the lines then begin after it; or no line is left
abbrev pub Passes : List Entry → List Entry → Option (Bor (List ℕ) × Bor (List ℕ)) → Type 0
Passes old new None = old ≡ []
Passes old new (Some parts) = old ≡ (parts.0.now, parts.1.now) ∷ new
