-- The archive of a tree: its strings in order, each with the place where it is.
use Rattle.std.specs.Prelude.{◌≡◌, ℕ, ◌+◌, ◌≤◌, List, [], ◌∷◌, ◌++◌, length, Bool, true, false, ⊤, codes}
use Rattle.std.specs.List.{flat_map, AllByRecursion}
use Rattle.nar.specs.String.{string}
use Rattle.nar.specs.Tree.{Tree, regular, symlink, directory, Entries, no_entries, entry, IsLegal}

-- A string, by the place where it is: the name of an entry, the word `node` before a node that is the
-- given one inside one another, or any other.
pub data Part : Type 0 where
  name : List ℕ → Part
  node : ℕ → Part
  other : List ℕ → Part

-- the string itself
abbrev pub spelled : Part → List ℕ
spelled (name s) = s
spelled (node depth) = codes "node"
spelled (other s) = s

-- what an executable file has before its contents
abbrev pub mark : Bool → List Part
mark true = other (codes "executable") ∷ other [] ∷ []
mark false = []

-- a node: its kind in brackets
abbrev pub bracketed : List Part → List Part
bracketed kind = other (codes "(") ∷ other (codes "type") ∷ (kind ++ other (codes ")") ∷ [])

-- The strings of a kind and of a directory's entries, the node being the given one inside one another.
abbrev mutual
  pub kind_parts : ℕ → Tree → List Part
  kind_parts depth (regular executable contents) =
      other (codes "regular") ∷ (mark executable ++ other (codes "contents") ∷ other contents ∷ [])
  kind_parts depth (symlink target) = other (codes "symlink") ∷ other (codes "target") ∷ other target ∷ []
  kind_parts depth (directory entries) = other (codes "directory") ∷ entries_parts depth entries

  pub entries_parts : ℕ → Entries → List Part
  entries_parts depth no_entries = []
  entries_parts depth (entry n t entries) =
      other (codes "entry") ∷ other (codes "(") ∷ other (codes "name") ∷ name n ∷ node (depth + 1)
      ∷ (bracketed (kind_parts (depth + 1) t) ++ other (codes ")") ∷ entries_parts depth entries)

-- the strings of a tree's archive
abbrev pub archive : Tree → List Part
archive t = other (codes "nix-archive-1") ∷ bracketed (kind_parts 1 t)

-- ---- bytes

-- the joined strings
abbrev pub spelling : List Part → List ℕ
spelling parts = flat_map (λ p. string (spelled p)) parts

-- at most 256 nodes are nested in one another
abbrev pub IsShallow : Part → Type 0
IsShallow (name s) = ⊤
IsShallow (node depth) = depth ≤ 256
IsShallow (other s) = ⊤

-- the most bytes that an archive has
abbrev pub limit : ℕ
limit = 16777216

-- The tree is legal, not too deep, and small enough.
pub record IsWritable (t : Tree) : Type 0 where
  pub legal : IsLegal t
  pub shallow : AllByRecursion IsShallow (archive t)
  pub small : length (spelling (archive t)) ≤ limit

-- The bytes are the archive of the tree.
pub record IsArchive (t : Tree) (bytes : List ℕ) : Type 0 where
  pub legal : IsLegal t
  pub shallow : AllByRecursion IsShallow (archive t)
  pub spells : bytes ≡ spelling (archive t)
  pub fits : length bytes ≤ limit
