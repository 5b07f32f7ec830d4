-- Sound rows, part by part: what an opening tests of each row.
use Rattle.std.specs.Prelude.{◌≡◌, ℕ, ◌≤◌, ℤ, pos, List, Some, IsTrue, IsFalse, IsSome, ◌↔◌}
use Rattle.std.specs.FinMap as finite
use Rattle.sha2.specs.Sha256.{sha256}
use Rattle.nar.specs.Tree.{Tree}
use Rattle.nar.specs.Archive.{IsArchive}
use Rattle.paths.specs.Names.{is_plain_name, is_store_dir}
use Rattle.paths.specs.StorePath.{is_base_name, is_derivation}
use Rattle.paths.specs.Root.{bytes_cmp, Set, is_runtime_label, is_session}
use Rattle.paths.specs.Decimal.{max_generation}
use Rattle.paths.specs.ContentAddress.{ContentAddress, address_of, verifies}
use Rattle.tables_sql.specs.Contents.{Stored}
use Rattle.model.specs.World.{Path, Pair}
use Rattle.model.specs.Objects.{most_references, outputs_at}
use Rattle.model.specs.Sound.{IsDerivation}
use Rattle.tables_world.specs.Pieces.{IsCut}
use Rattle.tables_world.specs.Rows.{Rows, SessionPath, settings, pieces_in, archive_in, references_in, outputs_in}
use Rattle.tables_world.specs.Rows.{address_in, IsSoundRows}
use Rattle.tables_schema.specs.declared.schema.Schema.{Schema}
use Rattle.tables_schema.specs.Schemas.{has_pieces, has_temporary}

-- An object with its archive, its references and its outputs. All rows of references are tested together: each
-- reference is an object.
pub record IsSoundRow (dir : List ℕ) (p : Path) (o : Stored) (nar : List ℕ) (references : Set bytes_cmp)
    (outputs : finite.FinMap bytes_cmp Path) : Type 0 where
  pub path : IsTrue (is_base_name p)
  pub hash : o.hash ≡ sha256 nar
  pub tree : Tree
  pub archive : IsArchive tree nar
  pub deriver : (d : Path) → o.deriver ≡ Some d → IsTrue (is_base_name d)
  pub address_text : (text : List ℕ) → o.ca ≡ Some text → IsSome (address_of text)
  pub names : (r : Path) → IsTrue (finite.contains_key references r) → IsTrue (is_base_name r)
  pub reference_count : finite.len references ≤ most_references
  pub no_self_reference : (a : ContentAddress) → address_in o.ca ≡ Some a → IsFalse (finite.contains_key references p)
  pub address : (a : ContentAddress) → address_in o.ca ≡ Some a → IsTrue (verifies a dir p (finite.keys references) nar)
  pub derivation : IsTrue (is_derivation p) → IsDerivation dir nar
  pub outputs_are : outputs ≡ outputs_at dir p nar

-- each object is sound, each reference is one of an object to an object, and each output one of an object
pub record AreSoundObjects (dir : List ℕ) (c : Rows) : Type 0 where
  pub objects : (p : Path) (o : Stored) → finite.get c.objects p ≡ Some o
      → IsSoundRow dir p o (archive_in c p o) (references_in c p) (outputs_in c p)
  pub references : (p r : Path) → IsTrue (finite.contains_key c.refs (p, r))
      → IsTrue (finite.contains_key c.objects p) × IsTrue (finite.contains_key c.objects r)
  pub outputs : (p name : List ℕ) → IsTrue (finite.contains_key c.outs (p, name))
      → IsTrue (finite.contains_key c.objects p)

-- a generation has a number of 1 to 9,999, belongs to a profile, and its target is an object
pub record IsSoundGeneration (c : Rows) (owner name : List ℕ) (n : ℤ) (t : Path) : Type 0 where
  pub number : ℕ
  pub is_number : n ≡ pos number
  pub lowest : 1 ≤ number
  pub highest : number ≤ max_generation
  pub profile : IsTrue (finite.contains_key c.profiles (owner, name))
  pub target : IsTrue (finite.contains_key c.objects t)

-- Every name is plain, every label a runtime label, every target an object; and the current generation of a profile is
-- there.
pub record AreSoundRoots (c : Rows) : Type 0 where
  pub permanent : (name : List ℕ) (t : Path) → finite.get c.permanent name ≡ Some t
      → IsTrue (is_plain_name name) × IsTrue (finite.contains_key c.objects t)
  pub user_roots : (owned : Pair) (t : Path) → finite.get c.user_roots owned ≡ Some t
      → IsTrue (is_plain_name owned.0) × IsTrue (is_plain_name owned.1) × IsTrue (finite.contains_key c.objects t)
  pub runtime : (r : Pair) → IsTrue (finite.contains_key c.runtime r)
      → IsTrue (is_runtime_label r.0) × IsTrue (finite.contains_key c.objects r.1)
  pub profiles : (owned : Pair) (n : ℤ) → finite.get c.profiles owned ≡ Some n
      → IsTrue (is_plain_name owned.0) × IsTrue (is_plain_name owned.1)
      × IsTrue (finite.contains_key c.generations (owned.0, owned.1, n))
  pub generations : (owner name : List ℕ) (n : ℤ) (t : Path) → finite.get c.generations (owner, name, n) ≡ Some t
      → IsSoundGeneration c owner name n t

-- what a session of an owner keeps: its number is 1 to 4,194,304, and the path an object
pub record IsSoundSession (c : Rows) (k : SessionPath) : Type 0 where
  pub owner : IsTrue (is_plain_name k.0)
  pub number : ℕ
  pub is_number : k.1 ≡ pos number
  pub session : IsTrue (is_session number)
  pub target : IsTrue (finite.contains_key c.objects k.2)

pub record AreSoundParts (schema : Schema) (dir : List ℕ) (c : Rows) : Type 0 where
  pub directory : IsTrue (is_store_dir dir)
  pub settings_are : c.meta ≡ settings schema dir
  pub no_pieces : IsFalse (has_pieces schema) → c.pieces ≡ finite.empty
  pub no_temporary : IsFalse (has_temporary schema) → c.temp_roots ≡ finite.empty
  pub cut : IsTrue (has_pieces schema) → (p : Path) (o : Stored) → finite.get c.objects p ≡ Some o
      → IsCut o.nar (finite.entries (pieces_in c p))
  pub pieces : (p : Path) (n : ℤ) → IsTrue (finite.contains_key c.pieces (p, n))
      → IsTrue (finite.contains_key c.objects p)
  pub sessions : (k : SessionPath) → IsTrue (finite.contains_key c.temp_roots k) → IsSoundSession c k
  pub objects : AreSoundObjects dir c
  pub roots : AreSoundRoots c

-- rows are sound exactly where their parts are
abbrev pub AreSoundByParts : Type 0
AreSoundByParts = (schema : Schema) (dir : List ℕ) (c : Rows) → IsSoundRows schema dir c ↔ AreSoundParts schema dir c
