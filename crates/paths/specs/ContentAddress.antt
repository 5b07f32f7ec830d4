-- Content addresses: how an object's path is made, and the digest that it is made of.
use Rattle.std.specs.Prelude.{◌≡◌, ℕ, ◌&&◌, Bool, true, false, if◌then◌else◌, List, ◌++◌, length, drop, codes, Option}
use Rattle.std.specs.Prelude.{Some, None, Result, Ok, Err}
use Rattle.std.specs.Str.{bytes_eq}
use Rattle.sha2.specs.Sha256.{sha256}
use Rattle.nar.specs.declared.error.NarError.{NarError}
use Rattle.nar.specs.Tree.{Tree, regular, symlink, directory, IsBytes}
use Rattle.nar.specs.Archive.{IsArchive}
use Rattle.nar.specs.Outcome.{outcome_of}
use Rattle.paths.specs.declared.content_address.Method.{Method}
use Rattle.paths.specs.declared.content_address.Method.TheVariants.{Text, Source}
use Rattle.paths.specs.declared.content_address.CaError.{CaError}
use Rattle.paths.specs.declared.content_address.CaError.TheVariants.{BadCa, Memory}
use Rattle.paths.specs.declared.digits.Base32Error.{Base32Error}
use Rattle.paths.specs.declared.digits.Base32Error.TheVariants as digits
use Rattle.paths.specs.Names.{begins}
use Rattle.paths.specs.StorePath.{name_of}
use Rattle.paths.specs.Base32.{base32, unbase32}
use Rattle.paths.specs.Path.{IsPathOf, path_of}

pub record ContentAddress : Type 0 where
  pub method : Method
  pub digest : List ℕ

-- ---- as texts

-- what an address of this method begins with
abbrev pub address_prefix : Method → List ℕ
address_prefix Text = codes "text:sha256:"
address_prefix Source = codes "fixed:r:sha256:"

-- the text of an address: its prefix, and the digest in base 32
abbrev pub address_text : ContentAddress → List ℕ
address_text ca = address_prefix ca.method ++ base32 ca.digest

-- the text is that of an address whose digest has 32 bytes
pub record IsAddressText (ca : ContentAddress) (text : List ℕ) : Type 0 where
  pub digest : length ca.digest ≡ 32
  pub bytes : IsBytes ca.digest
  pub spells : text ≡ address_text ca

abbrev pub with_method : Method → Result (List ℕ) Base32Error → Option ContentAddress
with_method method (Ok digest) = Some (record { method = method; digest = digest })
with_method method (Err e) = None

-- what a fault of the digits says of the text
abbrev pub digits_fault : Base32Error → CaError
digits_fault digits.Memory = Memory
digits_fault _ = BadCa

-- the address that a text is, if it is one
unfoldable pub address_of : List ℕ → Option ContentAddress
address_of text =
    if begins text (codes "text:sha256:") then with_method Text (unbase32 (drop 12 text) 32)
    else if begins text (codes "fixed:r:sha256:") then with_method Source (unbase32 (drop 15 text) 32)
    else None

-- ---- of objects

-- the address of a text object
abbrev pub text_address : List ℕ → ContentAddress
text_address contents = record { method = Text; digest = sha256 contents }

-- the address of a source object
abbrev pub source_address : List ℕ → ContentAddress
source_address nar = record { method = Source; digest = sha256 nar }

-- a text address fits: the archive is that of a regular file that isn't executable, and the digest and the path
-- are made of its contents
pub record FitsText (digest dir path : List ℕ) (refs : List (List ℕ)) (nar : List ℕ) : Type 0 where
  pub contents : List ℕ
  pub archive : IsArchive (regular false contents) nar
  pub hash : digest ≡ sha256 contents
  pub made : IsPathOf (codes "text") dir (name_of path) refs (sha256 contents) path

-- a source address fits: the digest and the path are made of the archive, which may be any bytes
pub record FitsSource (digest dir path : List ℕ) (refs : List (List ℕ)) (nar : List ℕ) : Type 0 where
  pub hash : digest ≡ sha256 nar
  pub made : IsPathOf (codes "source") dir (name_of path) refs (sha256 nar) path

abbrev pub Fits : Method → List ℕ → List ℕ → List ℕ → List (List ℕ) → List ℕ → Type 0
Fits Text = FitsText
Fits Source = FitsSource

-- the address is that of the object with this path, these references and this archive
abbrev pub Verifies : ContentAddress → List ℕ → List ℕ → List (List ℕ) → List ℕ → Type 0
Verifies ca dir path refs nar = Fits ca.method ca.digest dir path refs nar

-- the contents of a regular file that isn't executable
abbrev pub plain : Tree → Option (List ℕ)
plain (regular false contents) = Some contents
plain (regular true _) = None
plain (symlink _) = None
plain (directory _) = None

-- the contents, where the archive is that of a regular file that isn't executable
abbrev pub plain_contents : Result Tree NarError → Option (List ℕ)
plain_contents (Ok tree) = plain tree
plain_contents (Err e) = None

-- the digest is the stated one, and the path is made of it
abbrev pub is_made_of : List ℕ → List ℕ → List ℕ → List ℕ → List ℕ → List (List ℕ) → Bool
is_made_of kind stated inner dir path refs =
    bytes_eq stated inner && bytes_eq path (path_of kind dir (name_of path) refs inner)

abbrev pub text_verifies : List ℕ → List ℕ → List ℕ → List (List ℕ) → Option (List ℕ) → Bool
text_verifies digest dir path refs None = false
text_verifies digest dir path refs (Some contents) = is_made_of (codes "text") digest (sha256 contents) dir path refs

abbrev pub method_verifies : Method → List ℕ → List ℕ → List ℕ → List (List ℕ) → List ℕ → Bool
method_verifies Text digest dir path refs nar = text_verifies digest dir path refs (plain_contents (outcome_of nar))
method_verifies Source digest dir path refs nar = is_made_of (codes "source") digest (sha256 nar) dir path refs

-- whether the address is that of the object with this path, these references and this archive
abbrev pub verifies : ContentAddress → List ℕ → List ℕ → List (List ℕ) → List ℕ → Bool
verifies ca dir path refs nar = method_verifies ca.method ca.digest dir path refs nar
