-- Laws of the definitions: each function is the relation that it computes.
use Rattle.std.specs.Prelude.{◌≡◌, ◌↔◌, ℕ, List, false, true, Some, IsTrue}
use Rattle.nar.specs.Tree.{regular, IsBytes}
use Rattle.nar.specs.Archive.{IsArchive}
use Rattle.paths.specs.Names.{is_store_name}
use Rattle.paths.specs.StorePath.{is_base_name}
use Rattle.paths.specs.Base32.{Spells, base32}
use Rattle.paths.specs.Path.{InPathOrder, in_path_order, IsPathOf, path_of, text_path, source_path}
use Rattle.paths.specs.ContentAddress.{ContentAddress, IsAddressText, address_of, text_address, source_address}
use Rattle.paths.specs.ContentAddress.{Verifies, verifies}

-- bytes are spelled by one text
abbrev pub OneSpelling : Type 0
OneSpelling = (text bytes : List ℕ) → IsBytes bytes → Spells text bytes ↔ (text ≡ base32 bytes)

-- one list is the set of references in path order
abbrev pub OnePathOrder : Type 0
OnePathOrder = (refs ordered : List (List ℕ)) → InPathOrder refs ordered ↔ (ordered ≡ in_path_order refs)

-- an object has one path
abbrev pub OnePath : Type 0
OnePath = (kind dir name : List ℕ) (refs : List (List ℕ)) (inner base : List ℕ) → IsPathOf kind dir name refs inner base
    ↔ (base ≡ path_of kind dir name refs inner)

-- a computed path is a base name
abbrev pub TextPathsAreBaseNames : Type 0
TextPathsAreBaseNames =
    (dir name : List ℕ) (refs : List (List ℕ)) (contents : List ℕ) → is_store_name name ≡ true
    → is_base_name (text_path dir name refs contents) ≡ true

abbrev pub SourcePathsAreBaseNames : Type 0
SourcePathsAreBaseNames =
    (dir name : List ℕ) (refs : List (List ℕ)) (nar : List ℕ) → is_store_name name ≡ true
    → is_base_name (source_path dir name refs nar) ≡ true

-- a text is an address exactly where it is that address's text
abbrev pub OneAddressText : Type 0
OneAddressText = (ca : ContentAddress) (text : List ℕ) → (address_of text ≡ Some ca) ↔ IsAddressText ca text

-- the test of an address is exact
abbrev pub VerifyingIsExact : Type 0
VerifyingIsExact =
    (ca : ContentAddress) (dir path : List ℕ) (refs : List (List ℕ)) (nar : List ℕ) → IsBytes nar
    → IsTrue (verifies ca dir path refs nar) ↔ Verifies ca dir path refs nar

-- the address that a text or source object is given verifies at its computed path
abbrev pub TextAddressesVerify : Type 0
TextAddressesVerify =
    (dir name : List ℕ) (refs : List (List ℕ)) (contents nar : List ℕ) → IsArchive (regular false contents) nar
    → IsBytes nar
    → IsTrue (verifies (text_address contents) dir (text_path dir name refs contents) refs nar)

abbrev pub SourceAddressesVerify : Type 0
SourceAddressesVerify =
    (dir name : List ℕ) (refs : List (List ℕ)) (nar : List ℕ)
    → IsTrue (verifies (source_address nar) dir (source_path dir name refs nar) refs nar)
