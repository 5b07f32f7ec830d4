-- A step machine for the strings of an archive, for the contracts inside the crate: what may come next, as a
-- list of symbols.
use Rattle.std.specs.Prelude.{◌≡◌, ◌≢◌, ℕ, ◌+◌, ◌-◌, List, [], ◌∷◌, ◌++◌, length, Option, Some, None, Result, Ok, Err}
use Rattle.std.specs.Prelude.{codes, option_and_then, is_some, ◌&&◌, nat_lt}
use Rattle.std.specs.Str.{bytes_eq}
use Rattle.std.specs.List.{AllByRecursion}
use Rattle.std.specs.Prelude.{cond, eqb}
use Rattle.nar.specs.declared.error.NarError.{NarError}
use Rattle.nar.specs.declared.error.NarError.TheVariants.{BadTag, BadName, NotSorted, TooDeep, Trailing}
use Rattle.nar.specs.String.{string_at, size_of}
use Rattle.nar.specs.Tree.{is_name, rises, IsBytes}
use Rattle.nar.specs.Archive.{Part, name, node, other, spelled}

-- each string is bytes
abbrev pub AreBytes : List Part → Type 0
AreBytes parts = AllByRecursion (λ p. IsBytes (spelled p)) parts

-- What is to come: a fixed word, any string, the rest of a node from the word of its kind on, of a file, of a
-- directory, of an entry from its name on, or the word `node`; each with the depth of its node and the name before.
pub data Symbol : Type 0 where
  word : List ℕ → Symbol
  any : Symbol
  kind : ℕ → Symbol
  file : Symbol
  entries : ℕ → Option (List ℕ) → Symbol
  entry_name : ℕ → Option (List ℕ) → Symbol
  node_word : ℕ → Symbol

-- ---- what the next part leaves to come

-- after the word of a kind
abbrev pub kind_next : ℕ → List ℕ → Option (List Symbol)
kind_next d s =
    cond (bytes_eq s (codes "regular")) (Some (file ∷ []))
    (cond (bytes_eq s (codes "symlink")) (Some (word (codes "target") ∷ any ∷ word (codes ")") ∷ []))
    (cond (bytes_eq s (codes "directory")) (Some (entries d None ∷ []))
    None))

-- after the first word of a file's rest
abbrev pub file_next : List ℕ → Option (List Symbol)
file_next s =
    cond (bytes_eq s (codes "executable")) (Some (word [] ∷ word (codes "contents") ∷ any ∷ word (codes ")") ∷ []))
    (cond (bytes_eq s (codes "contents")) (Some (any ∷ word (codes ")") ∷ []))
    None)

-- after the first word of a directory's rest
abbrev pub entries_next : ℕ → Option (List ℕ) → List ℕ → Option (List Symbol)
entries_next d last s =
    cond (bytes_eq s (codes ")")) (Some [])
    (cond (bytes_eq s (codes "entry")) (Some (word (codes "(") ∷ word (codes "name") ∷ entry_name d last ∷ []))
    None)

-- after the name of an entry
abbrev pub after_name : ℕ → List ℕ → List Symbol
after_name d n =
    node_word (d + 1) ∷ word (codes "(") ∷ word (codes "type") ∷ kind (d + 1) ∷ word (codes ")") ∷ entries d (Some n)
    ∷ []

-- after this part, where the symbol is; none where the part isn't allowed there
abbrev pub consumed : Symbol → Part → Option (List Symbol)
consumed (word w) (other s) = cond (bytes_eq s w) (Some []) None
consumed any (other s) = Some []
consumed (kind d) (other s) = kind_next d s
consumed file (other s) = file_next s
consumed (entries d last) (other s) = entries_next d last s
consumed (entry_name d last) (name n) = cond (is_name n && rises last n) (Some (after_name d n)) None
consumed (node_word d) (node e) = cond (eqb e d) (Some []) None
consumed _ _ = None

-- after these parts
abbrev pub run : List Symbol → List Part → Option (List Symbol)
run σ [] = Some σ
run [] (p ∷ ps) = None
run (x ∷ κ) (p ∷ ps) = option_and_then (λ σ. run (σ ++ κ) ps) (consumed x p)

-- an archive
abbrev pub start : List Symbol
start = word (codes "nix-archive-1") ∷ word (codes "(") ∷ word (codes "type") ∷ kind 1 ∷ []

-- ---- strings

-- the part that the string is where the symbol is, or why it isn't allowed there
abbrev pub check : Symbol → List ℕ → Result Part NarError
check (entry_name d last) s = cond (is_name s) (cond (rises last s) (Ok (name s)) (Err NotSorted)) (Err BadName)
check (node_word d) s = cond (bytes_eq s (codes "node")) (cond (nat_lt 256 d) (Err TooDeep) (Ok (node d))) (Err BadTag)
check x s = cond (is_some (consumed x (other s))) (Ok (other s)) (Err BadTag)

-- ---- bytes

-- the fault of the bytes where these symbols are to come, and this number of bytes may still come
pub data FaultAt : List Symbol → ℕ → List ℕ → NarError → Type 0 where
  trails : {room : ℕ} {bytes : List ℕ} → bytes ≢ [] → FaultAt [] room bytes Trailing
  stops : {x : Symbol} {κ : List Symbol} {room : ℕ} {bytes : List ℕ} {e : NarError} → string_at room bytes ≡ Err e
      → FaultAt (x ∷ κ) room bytes e
  refuses : {x : Symbol} {κ : List Symbol} {room : ℕ} {bytes s rest : List ℕ} {e : NarError}
      → string_at room bytes ≡ Ok (s, rest) → check x s ≡ Err e → FaultAt (x ∷ κ) room bytes e
  continues : {x : Symbol} {σ κ : List Symbol} {p : Part} {room : ℕ} {bytes s rest : List ℕ} {e : NarError}
      → string_at room bytes ≡ Ok (s, rest) → check x s ≡ Ok p → consumed x p ≡ Some σ
      → FaultAt (σ ++ κ) (room - size_of (length s)) rest e
      → FaultAt (x ∷ κ) room bytes e
