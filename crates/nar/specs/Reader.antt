-- The prefix that a step of reading consumed, and the fault that it found.
use Rattle.std.specs.Prelude.{◌≡◌, ℕ, ◌+◌, List, [], ◌∷◌, ◌++◌, length, Option, Ok, codes, IsTrue}
use Rattle.std.specs.List.{AllByRecursion}
use Rattle.nar.specs.declared.error.NarError.{NarError}
use Rattle.nar.specs.String.{string, string_at, size_of}
use Rattle.nar.specs.Tree.{Tree, regular, symlink, directory, is_name, rises, IsLegal, IsBytes}
use Rattle.nar.specs.Archive.{Part, name, node, other, mark, bracketed, kind_parts, entries_parts, IsShallow, spelling}
use Rattle.nar.specs.Answer.{IfFault}
use Rattle.nar.specs.Steps.{Symbol, AreBytes, FaultAt}

-- the bytes begin with the string
pub record ReadsString (room : ℕ) (bytes s : List ℕ) (left : ℕ) (rest : List ℕ) : Type 0 where
  pub is : string_at room bytes ≡ Ok (s, rest)
  pub parts : bytes ≡ string s ++ rest
  pub text_bytes : IsBytes s
  pub size : size_of (length s) + left ≡ room

-- the bytes begin with the parts
pub record Reads (room : ℕ) (bytes : List ℕ) (parts : List Part) (left : ℕ) (rest : List ℕ) : Type 0 where
  pub spells : bytes ≡ spelling parts ++ rest
  pub shallow : AllByRecursion IsShallow parts
  pub are_bytes : AreBytes parts
  pub size : length (spelling parts) + left ≡ room

-- the fault of the bytes where these symbols come first
abbrev pub FaultOf : List Symbol → ℕ → List ℕ → NarError → Type 0
FaultOf σ room bytes e = IfFault e (λ f. (κ : List Symbol) → FaultAt (σ ++ κ) room bytes f)

-- the word of a kind, and what follows it up to the bracket that closes the node
abbrev pub kind_word : Tree → List ℕ
kind_word (regular executable contents) = codes "regular"
kind_word (symlink target) = codes "symlink"
kind_word (directory es) = codes "directory"

abbrev pub kind_rest : ℕ → Tree → List Part
kind_rest depth (regular executable contents) =
    mark executable ++ other (codes "contents") ∷ other contents ∷ other (codes ")") ∷ []
kind_rest depth (symlink target) = other (codes "target") ∷ other target ∷ other (codes ")") ∷ []
kind_rest depth (directory es) = entries_parts depth es ++ other (codes ")") ∷ []

-- After the word of its kind came the tree, up to the bracket that closes the node.
pub record ReadsKind (word : List ℕ) (depth : ℕ) (room : ℕ) (bytes : List ℕ) (t : Tree) (left : ℕ)
    (rest : List ℕ) : Type 0 where
  pub is_kind : kind_word t ≡ word
  pub named : IsLegal t
  pub parts : Reads room bytes (kind_rest depth t) left rest

-- The bytes begin with a name that may come after the last one.
pub record ReadsName (last : Option (List ℕ)) (room : ℕ) (bytes n : List ℕ) (left : ℕ) (rest : List ℕ) : Type 0 where
  pub legal : IsTrue (is_name n)
  pub above : IsTrue (rises last n)
  pub parts : Reads room bytes (name n ∷ []) left rest

-- The bytes begin with a node.
pub record ReadsNode (depth : ℕ) (room : ℕ) (bytes : List ℕ) (t : Tree) (left : ℕ) (rest : List ℕ) : Type 0 where
  pub named : IsLegal t
  pub parts : Reads room bytes (bracketed (kind_parts depth t)) left rest

-- what follows the word `entry`
abbrev pub entry_rest : ℕ → List ℕ × Tree → List Part
entry_rest depth e =
    other (codes "(") ∷ other (codes "name") ∷ name e.0 ∷ node (depth + 1)
    ∷ (bracketed (kind_parts (depth + 1) e.1) ++ other (codes ")") ∷ [])

-- The bytes begin with an entry, after its first word, that may come after the last name.
pub record ReadsEntry (last : Option (List ℕ)) (depth : ℕ) (room : ℕ) (bytes : List ℕ) (e : List ℕ × Tree) (left : ℕ)
    (rest : List ℕ) : Type 0 where
  pub legal : IsTrue (is_name e.0)
  pub above : IsTrue (rises last e.0)
  pub named : IsLegal e.1
  pub parts : Reads room bytes (entry_rest depth e) left rest
