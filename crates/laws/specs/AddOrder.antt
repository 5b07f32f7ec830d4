-- Laws of adds that have several faults: which of them is reported.
use Rattle.std.specs.Prelude.{◌≡◌, ℕ, ◌<◌, ◌≤◌, Bool, List, length, Some, Ok, Err, IsTrue, IsFalse, Contains}
use Rattle.std.specs.FinMap as finite
use Rattle.sha2.specs.Sha256.{sha256}
use Rattle.nar.specs.declared.error.NarError.{NarError}
use Rattle.nar.specs.Tree.{Tree, regular}
use Rattle.nar.specs.Archive.{limit}
use Rattle.nar.specs.Outcome.{outcome_of}
use Rattle.paths.specs.Root.{bytes_cmp, set_of}
use Rattle.paths.specs.StorePath.{is_derivation}
use Rattle.paths.specs.Path.{text_path, source_path}
use Rattle.paths.specs.ContentAddress.{ContentAddress, verifies}
use Rattle.drv.specs.declared.error.DrvError.{DrvError}
use Rattle.drv.specs.declared.error.DrvError.TheVariants.{BadDerivation}
use Rattle.drv.specs.Outcome.{outputs_of}
use Rattle.model.specs.World.{Path, World, has}
use Rattle.model.specs.Objects.{most_references}
use Rattle.policy.specs.Settings.{Settings}
use Rattle.policy.specs.Caller.{Caller}
use Rattle.model.specs.Request.{Imported, Request, add_text, add_source, import_object}
use Rattle.model.specs.Reply.{Reply}
use Rattle.model.specs.declared.refusal.Refusal.{Refusal}
use Rattle.model.specs.declared.refusal.Refusal.TheVariants.{TooLarge, CaMismatch, MissingReference, SelfReference}
use Rattle.model.specs.declared.refusal.Refusal.TheVariants.{TooManyReferences}
use Rattle.model.specs.Faults.{archive_refusal, derivation_refusal}
use Rattle.model.specs.Adds.{text_archive}
use Rattle.model.specs.Step.{Step}
use Rattle.laws.specs.Faults.{IsRefusedWith}

-- whatever a call of this request answers, if the rules allow it and it doesn't fail, is this refusal
abbrev pub Refuses : Settings → World → Caller → Request → Refusal → Type 0
Refuses s w c q r = (reply : Reply) (new : World) → Step s w c q reply new → IsRefusedWith r reply

-- a path isn't valid, and a reference is neither valid nor the path itself
pub record HasMissingReference (w : World) (p : Path) (refs : List Path) : Type 0 where
  pub fresh : IsFalse (has w p)
  pub reference : Path
  pub listed : Contains refs reference
  pub other : reference ≡ p → ⊥
  pub missing : IsFalse (has w reference)

-- what is wrong with a tree as that of a derivation's archive: it isn't a regular file, or its contents have this fault
pub data IsFaultyTree (dir : List ℕ) (t : Tree) (e : DrvError) : Type 0 where
  text : (executable : Bool) (contents : List ℕ) → t ≡ regular executable contents → outputs_of dir contents ≡ Err e
      → IsFaultyTree dir t e
  other : ((executable : Bool) (contents : List ℕ) → t ≡ regular executable contents → ⊥) → e ≡ BadDerivation
      → IsFaultyTree dir t e

-- nothing is wrong with it, where the path's name ends in `.drv`
abbrev pub IsRightTree : List ℕ → Path → Tree → Type 0
IsRightTree dir p t = (e : DrvError) → IsTrue (is_derivation p) → IsFaultyTree dir t e → ⊥

-- Of a source: too many references; what is wrong with the archive; a reference to itself; what is wrong with a
-- derivation; and a missing reference. Each is reported where nothing before it is wrong.
pub record SourceFaults (s : Settings) (w : World) (c : Caller) (name : List ℕ) (refs : List Path)
    (b : List ℕ) : Type 0 where
  pub count : most_references < length refs → Refuses s w c (add_source name refs b) TooManyReferences
  pub archive_ : length refs ≤ most_references → (e : NarError) (r : Refusal) → outcome_of b ≡ Err e
      → archive_refusal e ≡ Some r
      → Refuses s w c (add_source name refs b) r
  pub itself : length refs ≤ most_references → (t : Tree) → outcome_of b ≡ Ok t
      → Contains refs (source_path s.store_dir name refs b)
      → Refuses s w c (add_source name refs b) SelfReference
  pub tree : length refs ≤ most_references → (t : Tree) → outcome_of b ≡ Ok t
      → (Contains refs (source_path s.store_dir name refs b) → ⊥)
      → IsTrue (is_derivation (source_path s.store_dir name refs b)) → (e : DrvError) (r : Refusal)
      → IsFaultyTree s.store_dir t e → derivation_refusal e ≡ Some r
      → Refuses s w c (add_source name refs b) r
  pub reference : length refs ≤ most_references → (t : Tree) → outcome_of b ≡ Ok t
      → (Contains refs (source_path s.store_dir name refs b) → ⊥)
      → IsRightTree s.store_dir (source_path s.store_dir name refs b) t
      → HasMissingReference w (source_path s.store_dir name refs b) refs
      → Refuses s w c (add_source name refs b) MissingReference

-- Of a text the same, with the size of its archive for what may be wrong with it.
pub record TextFaults (s : Settings) (w : World) (c : Caller) (name : List ℕ) (refs : List Path)
    (contents : List ℕ) : Type 0 where
  pub count : most_references < length refs → Refuses s w c (add_text name refs contents) TooManyReferences
  pub size : length refs ≤ most_references → limit < length (text_archive contents)
      → Refuses s w c (add_text name refs contents) TooLarge
  pub itself : length refs ≤ most_references → length (text_archive contents) ≤ limit
      → Contains refs (text_path s.store_dir name refs contents)
      → Refuses s w c (add_text name refs contents) SelfReference
  pub tree : length refs ≤ most_references → length (text_archive contents) ≤ limit
      → (Contains refs (text_path s.store_dir name refs contents) → ⊥)
      → IsTrue (is_derivation (text_path s.store_dir name refs contents)) → (e : DrvError) (r : Refusal)
      → outputs_of s.store_dir contents ≡ Err e
      → derivation_refusal e ≡ Some r → Refuses s w c (add_text name refs contents) r
  pub reference : length refs ≤ most_references → length (text_archive contents) ≤ limit
      → (Contains refs (text_path s.store_dir name refs contents) → ⊥)
      → ((e : DrvError) → IsTrue (is_derivation (text_path s.store_dir name refs contents))
      → outputs_of s.store_dir contents ≡ Err e → ⊥)
      → HasMissingReference w (text_path s.store_dir name refs contents) refs
      → Refuses s w c (add_text name refs contents) MissingReference

-- an archive that is read and has the digest that is given, with few enough references
pub record IsAsGiven (i : Imported) (t : Tree) : Type 0 where
  pub few : length i.refs ≤ most_references
  pub read : outcome_of i.nar ≡ Ok t
  pub digest : sha256 i.nar ≡ i.nar_hash

-- an object that has an address doesn't refer to itself, and the address verifies
pub record IsAsAddressed (dir : List ℕ) (i : Imported) : Type 0 where
  pub itself : (a : ContentAddress) → i.ca ≡ Some a → Contains i.refs i.path → ⊥
  pub address : (a : ContentAddress) → i.ca ≡ Some a
      → IsTrue (verifies a dir i.path (finite.keys (set_of bytes_cmp i.refs)) i.nar)

-- Of an import too many references, and what is wrong with the archive; another digest, which
-- `adds_are_refused_for_their_faults` covers; then, under an address, a reference to itself, and an address that
-- doesn't verify; what is wrong with a derivation; and a missing reference.
pub record ImportFaults (s : Settings) (w : World) (c : Caller) (i : Imported) : Type 0 where
  pub count : most_references < length i.refs → Refuses s w c (import_object i) TooManyReferences
  pub archive_ : length i.refs ≤ most_references → (e : NarError) (r : Refusal) → outcome_of i.nar ≡ Err e
      → archive_refusal e ≡ Some r
      → Refuses s w c (import_object i) r
  pub itself : (t : Tree) → IsAsGiven i t → (a : ContentAddress) → i.ca ≡ Some a → Contains i.refs i.path
      → Refuses s w c (import_object i) SelfReference
  pub address : (t : Tree) → IsAsGiven i t → (a : ContentAddress) → i.ca ≡ Some a → (Contains i.refs i.path → ⊥)
      → IsFalse (verifies a s.store_dir i.path (finite.keys (set_of bytes_cmp i.refs)) i.nar)
      → Refuses s w c (import_object i) CaMismatch
  pub tree : (t : Tree) → IsAsGiven i t → IsAsAddressed s.store_dir i → IsTrue (is_derivation i.path)
      → (e : DrvError) (r : Refusal) → IsFaultyTree s.store_dir t e
      → derivation_refusal e ≡ Some r → Refuses s w c (import_object i) r
  pub reference : (t : Tree) → IsAsGiven i t → IsAsAddressed s.store_dir i → IsRightTree s.store_dir i.path t
      → HasMissingReference w i.path i.refs
      → Refuses s w c (import_object i) MissingReference

abbrev pub SourceFaultsInOrder : Type 0
SourceFaultsInOrder =
    (s : Settings) (w : World) (c : Caller) (name : List ℕ) (refs : List Path) (b : List ℕ)
    → SourceFaults s w c name refs b

abbrev pub TextFaultsInOrder : Type 0
TextFaultsInOrder =
    (s : Settings) (w : World) (c : Caller) (name : List ℕ) (refs : List Path) (contents : List ℕ)
    → TextFaults s w c name refs contents

abbrev pub ImportFaultsInOrder : Type 0
ImportFaultsInOrder = (s : Settings) (w : World) (c : Caller) (i : Imported) → ImportFaults s w c i
