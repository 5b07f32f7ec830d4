-- The parts of a sound world in another world, and worlds with other roots.
use Rattle.std.proofs.Common.{◌≡◌, ℕ, List, Some, IsTrue}
use Rattle.std.specs.FinMap as finite
use Rattle.paths.specs.Names.{is_plain_name}
use Rattle.paths.specs.Root.{bytes_cmp, Set, is_runtime_label, is_session}
use Rattle.model.specs.World.{Path, Pair, pair_cmp, Object, Profile, Temporary, temporary_cmp, World, has}
use Rattle.model.specs.Sound.{IsSoundObject, IsSoundProfile, IsSound}

-- an object whose references are valid there too
pub object_in : (dir : List ℕ) (w new : World) (p : Path) (o : Object) → IsSoundObject dir w p o
    → ((r : Path) → IsTrue (finite.contains_key o.references r) → IsTrue (has new r)) → IsSoundObject dir new p o
object_in dir w new p o sound f = record {
  path = sound.path;
  tree = sound.tree;
  archive = sound.archive;
  deriver = sound.deriver;
  references = f;
  reference_count = sound.reference_count;
  no_self_reference = sound.no_self_reference;
  address = sound.address;
  derivation = sound.derivation;
  outputs = sound.outputs;
}

-- a profile whose targets are valid there too
pub profile_in : (w new : World) (owned : Pair) (p : Profile) → IsSoundProfile w owned p
    → ((n : ℕ) (t : Path) → finite.get p.generations n ≡ Some t → IsTrue (has new t)) → IsSoundProfile new owned p
profile_in w new owned p sound f = record {
  owner = sound.owner;
  name = sound.name;
  current = sound.current;
  lowest = sound.lowest;
  highest = sound.highest;
  targets = f;
}

-- the same objects with other roots
pub with_roots : (dir : List ℕ) (w : World) → IsSound dir w
    → (m : finite.FinMap bytes_cmp Path) (u : finite.FinMap pair_cmp Path) (f : finite.FinMap pair_cmp Profile)
    (r : Set pair_cmp) (k : Set temporary_cmp)
    → ((name : List ℕ) → IsTrue (finite.contains_key m name) → IsTrue (is_plain_name name))
    → ((name : List ℕ) (t : Path) → finite.get m name ≡ Some t → IsTrue (has w t))
    → ((owned : Pair) → IsTrue (finite.contains_key u owned)
    → IsTrue (is_plain_name owned.0) × IsTrue (is_plain_name owned.1))
    → ((owned : Pair) (t : Path) → finite.get u owned ≡ Some t → IsTrue (has w t))
    → ((owned : Pair) (p : Profile) → finite.get f owned ≡ Some p → IsSoundProfile w owned p)
    → ((x : Pair) → IsTrue (finite.contains_key r x) → IsTrue (is_runtime_label x.0) × IsTrue (has w x.1))
    → ((t : Temporary) → IsTrue (finite.contains_key k t)
    → IsTrue (is_plain_name t.owner) × IsTrue (is_session t.session) × IsTrue (has w t.path))
    → IsSound dir (record {
      objects = w.objects;
      permanent = m;
      user_roots = u;
      profiles = f;
      runtime = r;
      temporary = k;
    })
with_roots dir w sound m u f r k names targets owners user_targets profiles pairs kept =
    let new : World =
    record { objects = w.objects; permanent = m; user_roots = u; profiles = f; runtime = r; temporary = k } in
    record {
      objects = λ p o e. object_in dir w new p o (sound.objects p o e) (sound.objects p o e).references;
      permanent_name = names;
      permanent_target = targets;
      user_root_owner = λ owned h. (owners owned h).0;
      user_root_name = λ owned h. (owners owned h).1;
      user_root_target = user_targets;
      profiles = λ owned p e. profile_in w new owned p (profiles owned p e) (profiles owned p e).targets;
      runtime_label = λ x h. (pairs x h).0;
      runtime_target = λ x h. (pairs x h).1;
      temporary_owner = λ t h. (kept t h).0;
      temporary_session = λ t h. (kept t h).1;
      temporary_target = λ t h. (kept t h).2;
    }
