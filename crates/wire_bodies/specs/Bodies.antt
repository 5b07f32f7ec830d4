-- The bodies of requests: what each says.
use Rattle.std.specs.Prelude.{◌≡◌, ℕ, true, List, [], ◌∷◌, map, codes, Some, String, string_bytes}
use Rattle.paths.specs.Decimal.{decimal_of}
use Rattle.paths.specs.ContentAddress.{address_of}
use Rattle.wire_bodies.specs.Lines.{Entry, Reads, spelled}
use Rattle.wire_bodies.specs.Values.{values, are_known, single, optional, each}
use Rattle.wire_bodies.specs.Kinds.{path_text, name_text, hash_text, flag_text, root_text}
use Rattle.wire_bodies.specs.declared.import.ImportHead.{ImportHead}
use Rattle.wire_bodies.specs.declared.heads.NamedHead.{NamedHead}
use Rattle.wire_bodies.specs.declared.heads.DeleteHead.{DeleteHead}
use Rattle.wire_bodies.specs.declared.collect.CollectHead.{CollectHead}

-- the entries of an add: a store name, and references
pub record IsNamed (dir : List ℕ) (es : List Entry) (head : NamedHead) : Type 0 where
  pub known : are_known (codes "name" ∷ codes "reference" ∷ []) es ≡ true
  pub name : single name_text (values (codes "name") es) ≡ Some head.name
  pub references : each (path_text dir) (values (codes "reference") es) ≡ Some head.references.items

-- the body of an add: its entries, an empty line, and the contents
abbrev pub IsNamedBody : List ℕ → List ℕ → NamedHead → List ℕ → Type 0
IsNamedBody dir body head contents = (es : List Entry) × Reads (spelled body) es contents × IsNamed dir es head

-- the entries of an import
pub record IsImport (dir : List ℕ) (es : List Entry) (head : ImportHead) : Type 0 where
  pub known : are_known (codes "path" ∷ codes "nar-hash" ∷ codes "reference" ∷ codes "deriver" ∷ codes "ca" ∷ []) es
      ≡ true
  pub path : single (path_text dir) (values (codes "path") es) ≡ Some head.path
  pub nar_hash : single hash_text (values (codes "nar-hash") es) ≡ Some head.nar_hash
  pub references : each (path_text dir) (values (codes "reference") es) ≡ Some head.references.items
  pub deriver : optional (path_text dir) (values (codes "deriver") es) ≡ Some head.deriver
  pub ca : optional address_of (values (codes "ca") es) ≡ Some head.ca

-- the body of an import: its entries, an empty line, and the archive
abbrev pub IsImportBody : List ℕ → List ℕ → ImportHead → List ℕ → Type 0
IsImportBody dir body head nar = (es : List Entry) × Reads (spelled body) es nar × IsImport dir es head

-- the entries that name one path
pub record IsPath (dir : List ℕ) (es : List Entry) (base : List ℕ) : Type 0 where
  pub known : are_known (codes "path" ∷ []) es ≡ true
  pub path : single (path_text dir) (values (codes "path") es) ≡ Some base

-- the entries of a deletion: any number of paths, and a flag if it is given
pub record IsDelete (dir : List ℕ) (es : List Entry) (head : DeleteHead) : Type 0 where
  pub known : are_known (codes "path" ∷ codes "ignore-liveness" ∷ []) es ≡ true
  pub paths : each (path_text dir) (values (codes "path") es) ≡ Some head.paths.items
  pub ignore_liveness : optional flag_text (values (codes "ignore-liveness") es) ≡ Some head.ignore_liveness

-- the entries of a collection: how many bytes are to be freed, and a flag, if they are given
pub record IsCollect (es : List Entry) (head : CollectHead) : Type 0 where
  pub known : are_known (codes "max-freed" ∷ codes "ignore-liveness" ∷ []) es ≡ true
  pub max_freed : optional decimal_of (values (codes "max-freed") es) ≡ Some head.max_freed
  pub ignore_liveness : optional flag_text (values (codes "ignore-liveness") es) ≡ Some head.ignore_liveness

-- the entries that name runtime roots: labels and paths
pub record IsRuntime (dir : List ℕ) (es : List Entry) (roots : List (List ℕ × List ℕ)) : Type 0 where
  pub known : are_known (codes "root" ∷ []) es ≡ true
  pub named : each (root_text dir) (values (codes "root") es) ≡ Some roots

-- labels and paths as contracts see them
abbrev pub labelled : {Z : Type 0} → List (String Z × List ℕ) → List (List ℕ × List ℕ)
labelled found = map (λ root. (string_bytes root.0, root.1)) found

-- a body without a payload, whose entries say this
abbrev pub Says : {A : Type 0} → (List Entry → A → Type 0) → List ℕ → A → Type 0
Says are body x = (es : List Entry) × Reads (spelled body) es [] × are es x
