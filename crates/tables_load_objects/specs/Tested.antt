-- What is tested of the rows of one object.
use Rattle.std.specs.Prelude.{◌≡◌, ℕ, ◌≤◌, Bool, true, false, not, ◌&&◌, if◌then◌else◌, Ok, List, [], ◌∷◌, map, length}
use Rattle.std.specs.Prelude.{Option, Some, None, is_some, IsTrue, IsOk, string_bytes}
use Rattle.std.specs.List.{list_any}
use Rattle.std.specs.Str.{bytes_eq}
use Rattle.std.specs.Ordering.{is_lt}
use Rattle.std.specs.FinMap as finite
use Rattle.sha2.specs.Sha256.{sha256}
use Rattle.nar.specs.declared.error.NarError.{NarError}
use Rattle.nar.specs.Tree.{Tree, regular}
use Rattle.nar.specs.Archive.{IsArchive}
use Rattle.paths.specs.StorePath.{is_base_name, is_derivation}
use Rattle.paths.specs.Root.{bytes_cmp, set_of}
use Rattle.paths.specs.ContentAddress.{ContentAddress, address_of, verifies}
use Rattle.drv.specs.Outcome.{outputs_of}
use Rattle.tables_sql.specs.Contents.{Stored}
use Rattle.tables_rows.specs.declared.references.Reference.{Reference}
use Rattle.tables_rows.specs.declared.outputs.Output.{Output}
use Rattle.model.specs.World.{Path}
use Rattle.model.specs.Objects.{most_references, outputs_at, tree_outputs}
use Rattle.model.specs.Sound.{IsDerivation}
use Rattle.tables_world.specs.Rows.{address_in}
use Rattle.tables_outline.specs.Outline.{Outlined}

-- ---- texts

-- a text that may be missing is a base name
abbrev pub is_base_if_any : Option (List ℕ) → Bool
is_base_if_any None = true
is_base_if_any (Some text) = is_base_name text

-- a text that may be missing is that of a content address
abbrev pub is_address_if_any : Option (List ℕ) → Bool
is_address_if_any None = true
is_address_if_any (Some text) = is_some (address_of text)

-- a text comes after the last one, if there is one
abbrev pub is_above : Option (List ℕ) → List ℕ → Bool
is_above None text = true
is_above (Some last) text = is_lt (bytes_cmp last text)

-- texts are base names, each above the one before it
abbrev pub are_paths : Option (List ℕ) → List (List ℕ) → Bool
are_paths last [] = true
are_paths last (text ∷ texts) = is_above last text && (is_base_name text && are_paths (Some text) texts)

-- what an object's rows of references refer to
abbrev pub targets_of : List Reference → List Path
targets_of rows = map (λ r. string_bytes r.target) rows

-- the names and the paths of its rows of outputs
abbrev pub named_of : List Output → List (List ℕ × Path)
named_of rows = map (λ o. (string_bytes o.name, string_bytes o.target)) rows

-- ---- archives

-- a regular file with a derivation text, no two outputs of which share a name
pub record HoldsDerivation (dir : List ℕ) (tree : Tree) : Type 0 where
  pub executable : Bool
  pub contents : List ℕ
  pub is_regular : tree ≡ regular executable contents
  pub has_outputs : IsOk (outputs_of dir contents)

-- the tree of an object whose name ends in `.drv` is a derivation's
abbrev pub IfDerivation : List ℕ → Path → Tree → Type 0
IfDerivation dir p tree = IsTrue (is_derivation p) → HoldsDerivation dir tree

-- what it records then
abbrev pub outputs_in : List ℕ → Path → Tree → finite.FinMap bytes_cmp Path
outputs_in dir p tree = if is_derivation p then tree_outputs {E = NarError} dir (Ok tree) else finite.empty

-- an archive, and a derivation's where the name ends in `.drv`
pub record IsRecorded (dir : List ℕ) (p : Path) (nar : List ℕ) : Type 0 where
  pub tree : Tree
  pub archive : IsArchive tree nar
  pub derivation : IsTrue (is_derivation p) → IsDerivation dir nar

-- two lists have the same names with the same paths, in the same order
abbrev pub same_outputs : List (List ℕ × Path) → List (List ℕ × Path) → Bool
same_outputs [] [] = true
same_outputs [] (f ∷ fs) = false
same_outputs (e ∷ es) [] = false
same_outputs (e ∷ es) (f ∷ fs) = (bytes_eq e.0 f.0 && bytes_eq e.1 f.1) && same_outputs es fs

-- an address, if there is one, is that of the object, which doesn't refer to itself then
abbrev pub fits_address : Option ContentAddress → List ℕ → Path → List Path → List ℕ → Bool
fits_address None dir p refs nar = true
fits_address (Some a) dir p refs nar = not (list_any (bytes_eq p) refs) && verifies a dir p refs nar

-- the digest, the address and the outputs of an object are those of its archive
pub record IsSoundArchive (dir : List ℕ) (p : Path) (nar hash : List ℕ) (ca : Option ContentAddress) (refs : List Path)
    (outputs : List (List ℕ × Path)) : Type 0 where
  pub digest : hash ≡ sha256 nar
  pub recorded : IsRecorded dir p nar
  pub address : IsTrue (fits_address ca dir p refs nar)
  pub outputs_are : outputs ≡ finite.entries (outputs_at dir p nar)

-- ---- objects

-- one object with what it refers to and its outputs, each list in order
pub record IsSoundAt (dir : List ℕ) (p : Path) (o : Stored) (refs : List Path)
    (outputs : List (List ℕ × Path)) : Type 0 where
  pub path : IsTrue (is_base_name p)
  pub deriver : IsTrue (is_base_if_any o.deriver)
  pub address_text : IsTrue (is_address_if_any o.ca)
  pub names : IsTrue (are_paths None refs)
  pub count : length refs ≤ most_references
  pub archive : IsSoundArchive dir p o.nar o.hash (address_in o.ca) refs outputs

-- what is kept of it
abbrev pub kept_of : List ℕ → Path → Stored → List Path → Outlined
kept_of dir p o refs =
    record {
      size = length o.nar;
      hash = sha256 o.nar;
      references = set_of bytes_cmp refs;
      deriver = o.deriver;
      ca = address_in o.ca;
      outputs = outputs_at dir p o.nar;
    }
