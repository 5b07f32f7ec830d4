-- Entries as callers pass and receive them: roots by their names, generations by their numbers, objects with their
-- archives.
use Rattle.std.specs.Prelude.{◌≡◌, ℕ, List, Option, Some, None, length}
use Rattle.std.specs.FinMap as finite
use Rattle.model.specs.World.{Path, Pair, Profile, World}
use Rattle.model.specs.World as world
use Rattle.model.specs.Profiles.{profile_at, put_at, switched}
use Rattle.model.specs.Effects.{with_permanent, without_permanent, with_user_root, without_user_root, with_profile}
use Rattle.tables_sql.specs.Contents.{Contents, Stored}
use Rattle.tables_world.specs.Pieces.{IsCut}
use Rattle.tables_world.specs.Rows.{archive_in, pieces_in}
use Rattle.tables_world.specs.Worlds.{rows_of}
use Rattle.tables_outline.specs.Outline.{Outlined, with_archive}
use Rattle.tables_writes.specs.declared.entries.Object.{Object}
use Rattle.tables_writes.specs.declared.named_roots.RootName.{RootName}
use Rattle.tables_writes.specs.declared.named_roots.RootName.TheVariants.{Permanent, User}

-- a world in which the root of this name has this target
abbrev pub with_root : RootName → Path → World → World
with_root (Permanent name) target w = with_permanent w name.now target
with_root (User owner name) target w = with_user_root w (owner.now, name.now) target

-- a world without a root of this name
abbrev pub without_root : RootName → World → World
without_root (Permanent name) w = without_permanent w name.now
without_root (User owner name) w = without_user_root w (owner.now, name.now)

-- a profile with a path at a number, if one is given, and with a current number
abbrev pub numbered : Option (ℕ × Path) → ℕ → Profile → Profile
numbered None current p = switched p current
numbered (Some e) current p = switched (put_at p e.0 e.1) current

-- a world in which the profile of an owner and a name is changed by a function
abbrev pub with_profile_by : Pair → (Profile → Profile) → World → World
with_profile_by owned change w = with_profile w owned (change (profile_at w owned))

-- a world in which a profile gets a path at a number, if one is given, and a current number
abbrev pub with_numbers : Pair → Option (ℕ × Path) → ℕ → World → World
with_numbers owned given current = with_profile_by owned (numbered given current)

-- a world in which a path has an object: an archive, and what its summary says
abbrev pub with_archived : Path → List ℕ → Outlined → World → World
with_archived path nar o w = record w { objects = finite.insert w.objects path (with_archive nar o) }

-- the contents hold the whole archive of a path, if it has an object: cut in pieces, and of this size in bytes
pub record HoldsArchive (path : Path) (size : ℕ) (c : Contents) : Type 0 where
  pub cut : (o : Stored) → finite.get c.objects path ≡ Some o
      → IsCut o.nar (finite.entries (pieces_in (rows_of c) path))
  pub sized : (o : Stored) → finite.get c.objects path ≡ Some o → length (archive_in (rows_of c) path o) ≡ size

-- an object of the world: the archive, and what its summary says
abbrev pub object_view : Object → world.Object
object_view o = with_archive o.nar o.summary
