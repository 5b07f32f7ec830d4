-- Faults of rows, said of the columns themselves. Each field of the records names a fault, and says that rows which
-- have it aren't sound.
use Rattle.std.specs.Prelude.{◌≡◌, ◌≢◌, ◌↔◌, ℕ, ◌<◌, ℤ, Bool, List, ◌++◌, length, codes, Some, None, IsTrue, IsFalse}
use Rattle.std.specs.Prelude.{IsSome, Contains, AllPairs}
use Rattle.std.specs.FinMap as finite
use Rattle.sha2.specs.Sha256.{sha256}
use Rattle.nar.specs.Tree.{Tree, regular}
use Rattle.nar.specs.Archive.{IsArchive}
use Rattle.paths.specs.Names.{is_store_dir}
use Rattle.paths.specs.StorePath.{is_base_name}
use Rattle.paths.specs.ContentAddress.{ContentAddress, IsAddressText, Verifies}
use Rattle.drv.specs.Derivation.{Records}
use Rattle.tables_sql.specs.Contents.{Contents, Stored}
use Rattle.model.specs.World.{Path}
use Rattle.tables_schema.specs.declared.schema.Schema.{Schema}
use Rattle.tables_schema.specs.declared.schema.Schema.TheVariants.{V1, V2, V3}
use Rattle.tables_world.specs.Worlds.{IsSoundBy}
use Rattle.laws.specs.CutArchives.{HasArchive}

-- by no schema the rows are those of a database of this store directory
abbrev pub AreUnsoundIn : List ℕ → Contents → Type 0
AreUnsoundIn dir c = (schema : Schema) → ¬ (IsSoundBy schema dir c)

-- nor of any other
abbrev pub AreUnsound : Contents → Type 0
AreUnsound c = (dir : List ℕ) → AreUnsoundIn dir c

-- ---- settings, and tables that a schema lacks

pub record ExcludesFaultySettings (c : Contents) : Type 0 where
  pub no_directory : (dir : List ℕ) → finite.get c.meta (codes "store-dir") ≡ Some dir → IsFalse (is_store_dir dir)
      → AreUnsound c
  pub other_directory : (dir : List ℕ) → finite.get c.meta (codes "store-dir") ≢ Some dir → AreUnsoundIn dir c
  pub not_the_first : finite.get c.meta (codes "schema") ≢ Some (codes "1") → (dir : List ℕ) → ¬ (IsSoundBy V1 dir c)
  pub not_the_second : finite.get c.meta (codes "schema") ≢ Some (codes "2") → (dir : List ℕ) → ¬ (IsSoundBy V2 dir c)
  pub not_the_third : finite.get c.meta (codes "schema") ≢ Some (codes "3") → (dir : List ℕ) → ¬ (IsSoundBy V3 dir c)
  pub further_word : (word : List ℕ) → word ≢ codes "schema" → word ≢ codes "store-dir"
      → IsTrue (finite.contains_key c.meta word) → AreUnsound c
  pub piece_in_the_first : (p : Path) (n : ℤ) → IsTrue (finite.contains_key c.pieces (p, n)) → (dir : List ℕ)
      → ¬ (IsSoundBy V1 dir c)
  pub session_in_the_first : (owner : List ℕ) (n : ℤ) (t : Path)
      → IsTrue (finite.contains_key c.temp_roots (owner, n, t)) → (dir : List ℕ) → ¬ (IsSoundBy V1 dir c)
  pub session_in_the_second : (owner : List ℕ) (n : ℤ) (t : Path)
      → IsTrue (finite.contains_key c.temp_roots (owner, n, t)) → (dir : List ℕ) → ¬ (IsSoundBy V2 dir c)

-- ---- objects

-- the paths that a path refers to, in any order
abbrev pub AreReferences : Contents → Path → List Path → Type 0
AreReferences c p references = (r : Path) → Contains references r ↔ IsTrue (finite.contains_key c.refs (p, r))

pub record ExcludesFaultyObject (c : Contents) (p : Path) (o : Stored) : Type 0 where
  pub path : IsFalse (is_base_name p) → AreUnsound c
  pub deriver : (d : Path) → o.deriver ≡ Some d → IsFalse (is_base_name d) → AreUnsound c
  pub no_archive : (nar : List ℕ) → HasArchive c p o nar → ((tree : Tree) → ¬ (IsArchive tree nar)) → AreUnsound c
  pub other_digest : (nar : List ℕ) → HasArchive c p o nar → o.hash ≢ sha256 nar → AreUnsound c
  pub no_address : (text : List ℕ) → o.ca ≡ Some text → ((ca : ContentAddress) → ¬ (IsAddressText ca text))
      → AreUnsound c
  -- the address of another object, in this store directory
  pub other_address : (dir nar text : List ℕ) (ca : ContentAddress) (references : List Path) → HasArchive c p o nar
      → o.ca ≡ Some text → IsAddressText ca text
      → AreReferences c p references → ¬ (Verifies ca dir p references nar) → AreUnsoundIn dir c
  pub self_reference : IsSome o.ca → IsTrue (finite.contains_key c.refs (p, p)) → AreUnsound c

abbrev pub FaultyObjectsAreUnsound : Type 0
FaultyObjectsAreUnsound =
    (c : Contents) (p : Path) (o : Stored) → finite.get c.objects p ≡ Some o → ExcludesFaultyObject c p o

-- ---- references

pub record ExcludesFaultyReferences (c : Contents) (p : Path) : Type 0 where
  pub of_no_object : (r : Path) → IsTrue (finite.contains_key c.refs (p, r)) → finite.get c.objects p ≡ None
      → AreUnsound c
  pub to_no_object : (r : Path) → IsTrue (finite.contains_key c.refs (p, r)) → finite.get c.objects r ≡ None
      → AreUnsound c
  pub no_base_name : (r : Path) → IsTrue (finite.contains_key c.refs (p, r)) → IsFalse (is_base_name r) → AreUnsound c
  pub too_many : (references : List Path) → AllPairs (λ q r. q ≢ r) references
      → ((r : Path) → Contains references r → IsTrue (finite.contains_key c.refs (p, r)))
      → 4096 < length references → AreUnsound c

-- ---- outputs

-- the rows of outputs of a path
pub record ExcludesFaultyOutputs (c : Contents) (p : Path) : Type 0 where
  pub of_no_object : (name : List ℕ) → IsTrue (finite.contains_key c.outs (p, name)) → finite.get c.objects p ≡ None
      → AreUnsound c
  pub of_no_derivation : (name : List ℕ) → IsTrue (finite.contains_key c.outs (p, name))
      → ((stem : List ℕ) → p ≢ stem ++ codes ".drv") → AreUnsound c

-- the object of a path whose name ends in `.drv`, with its archive, in a store directory
pub record ExcludesFaultyDerivation (dir : List ℕ) (c : Contents) (p : Path) (nar : List ℕ) : Type 0 where
  -- the archive is that of no regular file with a derivation text whose outputs have names of their own
  pub no_derivation :
      ((executable : Bool) (text : List ℕ) (outputs : List (List ℕ × Path)) → IsArchive (regular executable text) nar
      → ¬ (Records dir text outputs)) → AreUnsoundIn dir c
  -- a row that is no output of the text, and an output of the text that has no row
  pub other : (executable : Bool) (text : List ℕ) (outputs : List (List ℕ × Path))
      → IsArchive (regular executable text) nar → Records dir text outputs
      → (name : List ℕ) (base : Path) → finite.get c.outs (p, name) ≡ Some base → ¬ (Contains outputs (name, base))
      → AreUnsoundIn dir c
  pub missing : (executable : Bool) (text : List ℕ) (outputs : List (List ℕ × Path))
      → IsArchive (regular executable text) nar → Records dir text outputs
      → (name : List ℕ) (base : Path) → Contains outputs (name, base) → finite.get c.outs (p, name) ≢ Some base
      → AreUnsoundIn dir c

abbrev pub FaultyDerivationsAreUnsound : Type 0
FaultyDerivationsAreUnsound =
    (dir : List ℕ) (c : Contents) (p : Path) (o : Stored) (stem nar : List ℕ) → finite.get c.objects p ≡ Some o
    → p ≡ stem ++ codes ".drv" → HasArchive c p o nar
    → ExcludesFaultyDerivation dir c p nar
