-- A sound world: what a database is tested for when it is opened, and what every step keeps.
use Rattle.std.specs.Prelude.{◌≡◌, ℕ, ◌≤◌, Bool, List, Some, IsTrue, IsFalse, IsOk}
use Rattle.std.specs.FinMap as finite
use Rattle.nar.specs.Tree.{Tree, regular}
use Rattle.nar.specs.Archive.{IsArchive}
use Rattle.paths.specs.Names.{is_plain_name}
use Rattle.paths.specs.StorePath.{is_base_name, is_derivation}
use Rattle.paths.specs.Root.{is_runtime_label, is_session}
use Rattle.paths.specs.Decimal.{max_generation}
use Rattle.paths.specs.ContentAddress.{ContentAddress, verifies}
use Rattle.drv.specs.Outcome.{outputs_of}
use Rattle.model.specs.World.{Path, Pair, Object, Profile, Temporary, World, has}
use Rattle.model.specs.Objects.{most_references, outputs_at}

-- an archive is that of a regular file with a derivation text, no two outputs of which share a name
pub record IsDerivation (dir nar : List ℕ) : Type 0 where
  pub executable : Bool
  pub contents : List ℕ
  pub is_regular : IsArchive (regular executable contents) nar
  pub has_outputs : IsOk (outputs_of dir contents)

pub record IsSoundObject (dir : List ℕ) (w : World) (p : Path) (o : Object) : Type 0 where
  -- the path is a base name, the bytes are an archive, and so is what is recorded of each kind
  pub path : IsTrue (is_base_name p)
  pub tree : Tree
  pub archive : IsArchive tree o.nar
  pub deriver : (d : Path) → o.deriver ≡ Some d → IsTrue (is_base_name d)
  -- every reference is an object, and there are at most 4,096
  pub references : (r : Path) → IsTrue (finite.contains_key o.references r) → IsTrue (has w r)
  pub reference_count : finite.len o.references ≤ most_references
  -- a content-addressed object has no self reference, and its address verifies
  pub no_self_reference : (a : ContentAddress) → o.ca ≡ Some a → IsFalse (finite.contains_key o.references p)
  pub address : (a : ContentAddress) → o.ca ≡ Some a → IsTrue (verifies a dir p (finite.keys o.references) o.nar)
  -- where the name ends in `.drv`, the archive is a derivation's, and the outputs are its outputs; else there are none
  pub derivation : IsTrue (is_derivation p) → IsDerivation dir o.nar
  pub outputs : o.outputs ≡ outputs_at dir p o.nar

pub record IsSoundProfile (w : World) (owned : Pair) (p : Profile) : Type 0 where
  pub owner : IsTrue (is_plain_name owned.0)
  pub name : IsTrue (is_plain_name owned.1)
  -- the current number is one of the generations
  pub current : IsTrue (finite.contains_key p.generations p.current)
  -- every generation is 1 to 9,999, and its target is an object
  pub lowest : (n : ℕ) → IsTrue (finite.contains_key p.generations n) → 1 ≤ n
  pub highest : (n : ℕ) → IsTrue (finite.contains_key p.generations n) → n ≤ max_generation
  pub targets : (n : ℕ) (t : Path) → finite.get p.generations n ≡ Some t → IsTrue (has w t)

-- a world that is sound in a store directory
pub record IsSound (dir : List ℕ) (w : World) : Type 0 where
  pub objects : (p : Path) (o : Object) → finite.get w.objects p ≡ Some o → IsSoundObject dir w p o
  -- every name is a plain name, every label a runtime label, every session 1 to 4,194,304, and every target of a root
  -- an object
  pub permanent_name : (name : List ℕ) → IsTrue (finite.contains_key w.permanent name) → IsTrue (is_plain_name name)
  pub permanent_target : (name : List ℕ) (t : Path) → finite.get w.permanent name ≡ Some t → IsTrue (has w t)
  pub user_root_owner : (owned : Pair) → IsTrue (finite.contains_key w.user_roots owned)
      → IsTrue (is_plain_name owned.0)
  pub user_root_name : (owned : Pair) → IsTrue (finite.contains_key w.user_roots owned) → IsTrue (is_plain_name owned.1)
  pub user_root_target : (owned : Pair) (t : Path) → finite.get w.user_roots owned ≡ Some t → IsTrue (has w t)
  pub profiles : (owned : Pair) (p : Profile) → finite.get w.profiles owned ≡ Some p → IsSoundProfile w owned p
  pub runtime_label : (r : Pair) → IsTrue (finite.contains_key w.runtime r) → IsTrue (is_runtime_label r.0)
  pub runtime_target : (r : Pair) → IsTrue (finite.contains_key w.runtime r) → IsTrue (has w r.1)
  pub temporary_owner : (t : Temporary) → IsTrue (finite.contains_key w.temporary t) → IsTrue (is_plain_name t.owner)
  pub temporary_session : (t : Temporary) → IsTrue (finite.contains_key w.temporary t) → IsTrue (is_session t.session)
  pub temporary_target : (t : Temporary) → IsTrue (finite.contains_key w.temporary t) → IsTrue (has w t.path)
