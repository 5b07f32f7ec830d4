-- The store path that an object is given: a digest of what it is made of, and its name.
use Rattle.std.specs.Prelude.{◌≡◌, ◌↔◌, ℕ, List, ◌++◌, codes, Contains}
use Rattle.std.specs.List.{flat_map}
use Rattle.std.specs.List.Sorted.{IsStrictlySortedBy}
use Rattle.std.specs.FinMap as finite
use Rattle.sha2.specs.Sha256.{sha256}
use Rattle.hex.specs.Hex.{encode_lower}
use Rattle.paths.specs.Base32.{Spells, base32}
use Rattle.paths.specs.Fold.{fold20}
use Rattle.paths.specs.Root.{bytes_cmp, set_of}
use Rattle.paths.specs.StorePath.{full_path}

-- the references in path order, each once
pub record InPathOrder (refs ordered : List (List ℕ)) : Type 0 where
  pub rising : IsStrictlySortedBy bytes_cmp ordered
  pub same : (r : List ℕ) → Contains ordered r ↔ Contains refs r

-- a reference in a fingerprint: `:` and its full path
abbrev pub reference_part : List ℕ → List ℕ → List ℕ
reference_part dir base = codes ":" ++ full_path dir base

-- type ":sha256:" lower-hex(inner) ":" store-dir ":" name, where the type has a part for each reference
abbrev pub fingerprint_of : List ℕ → List ℕ → List (List ℕ) → List ℕ → List ℕ → List ℕ
fingerprint_of kind dir ordered inner name =
    kind ++ flat_map (reference_part dir) ordered ++ codes ":sha256:" ++ encode_lower inner ++ codes ":" ++ dir
    ++ codes ":" ++ name

-- the base name of a fingerprint: the digits of its folded digest, `-`, the name
pub record HasFingerprint (fingerprint name base : List ℕ) : Type 0 where
  pub digits : List ℕ
  pub spelled : Spells digits (fold20 (sha256 fingerprint))
  pub joined : base ≡ digits ++ codes "-" ++ name

-- the base name that an object of this kind, name, set of references and inner digest has in a store directory
pub record IsPathOf (kind dir name : List ℕ) (refs : List (List ℕ)) (inner base : List ℕ) : Type 0 where
  pub ordered : List (List ℕ)
  pub in_order : InPathOrder refs ordered
  pub of : HasFingerprint (fingerprint_of kind dir ordered inner name) name base

-- ---- paths of objects, as functions

-- the references of a list in path order, each once
unfoldable pub in_path_order : List (List ℕ) → List (List ℕ)
in_path_order refs = finite.keys (set_of bytes_cmp refs)

-- the base name of an object
unfoldable pub path_of : List ℕ → List ℕ → List ℕ → List (List ℕ) → List ℕ → List ℕ
path_of kind dir name refs inner =
    base32 (fold20 (sha256 (fingerprint_of kind dir (in_path_order refs) inner name))) ++ codes "-" ++ name

-- the base name of a text object, by its store directory, name, references and contents
unfoldable pub text_path : List ℕ → List ℕ → List (List ℕ) → List ℕ → List ℕ
text_path dir name refs contents = path_of (codes "text") dir name refs (sha256 contents)

-- the base name of a source object, by its store directory, name, references and archive
unfoldable pub source_path : List ℕ → List ℕ → List (List ℕ) → List ℕ → List ℕ
source_path dir name refs nar = path_of (codes "source") dir name refs (sha256 nar)
