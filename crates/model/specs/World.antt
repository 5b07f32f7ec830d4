-- The world: what the tables hold.
use Rattle.std.specs.Prelude.{ℕ, Bool, List, ◌++◌, map, Option}
use Rattle.std.specs.List.{flat_map}
use Rattle.std.specs.declared.cmp.Ordering.{Ordering}
use Rattle.std.specs.Ordering.{on, then_cmp, nat_cmp}
use Rattle.std.specs.FinMap as finite
use Rattle.paths.specs.Root.{bytes_cmp, Set, Root, permanent, user, profile, runtime, temporary, in_order}
use Rattle.paths.specs.Root.{permanent_label, user_label, generation_label, temporary_label}
use Rattle.paths.specs.ContentAddress.{ContentAddress}

-- a store path, by its base name
abbrev pub Path : Type 0
Path = List ℕ

-- two texts: an owner and a name, or a label and a target
abbrev pub Pair : Type 0
Pair = List ℕ × List ℕ

-- the order of pairs: by the first, then the second
abbrev pub pair_cmp : Pair → Pair → Ordering
pair_cmp = then_cmp (on (λ p. p.0) bytes_cmp) (on (λ p. p.1) bytes_cmp)

-- a store object: the bytes of its archive, its references, its deriver and content address if recorded, its outputs by
-- name
pub record Object : Type 0 where
  pub nar : List ℕ
  pub references : Set bytes_cmp
  pub deriver : Option Path
  pub ca : Option ContentAddress
  pub outputs : finite.FinMap bytes_cmp Path

-- the objects by path
abbrev pub Objects : Type 0
Objects = finite.FinMap bytes_cmp Object

-- a profile: its generations by number, and the number of the current one
pub record Profile : Type 0 where
  pub generations : finite.FinMap nat_cmp Path
  pub current : ℕ

-- a path that a session of an owner keeps
pub record Temporary : Type 0 where
  pub owner : List ℕ
  pub session : ℕ
  pub path : Path

-- the order of paths that sessions keep: by owner, then session, then path
abbrev pub temporary_cmp : Temporary → Temporary → Ordering
temporary_cmp =
    then_cmp (on (λ t. t.owner) bytes_cmp) (then_cmp (on (λ t. t.session) nat_cmp) (on (λ t. t.path) bytes_cmp))

-- The world: objects by path; permanent roots by name; user roots and profiles by owner and name; runtime roots,
-- each a label and a target; and the paths that sessions keep, the temporary roots.
pub record World : Type 0 where
  pub objects : Objects
  pub permanent : finite.FinMap bytes_cmp Path
  pub user_roots : finite.FinMap pair_cmp Path
  pub profiles : finite.FinMap pair_cmp Profile
  pub runtime : Set pair_cmp
  pub temporary : Set temporary_cmp

-- the world of a database that was just made
abbrev pub no_world : World
no_world = record {
  objects = finite.empty;
  permanent = finite.empty;
  user_roots = finite.empty;
  profiles = finite.empty;
  runtime = finite.empty;
  temporary = finite.empty;
}

-- a path is valid if it is an object's
abbrev pub has : World → Path → Bool
has w p = finite.contains_key w.objects p

-- the valid paths, in order
abbrev pub all_paths : World → List Path
all_paths w = finite.keys w.objects

-- ---- roots of a world

abbrev pub permanent_root : List ℕ × Path → Root
permanent_root e = record { kind = permanent; target = e.1; label = permanent_label e.0 }

abbrev pub user_root : Pair × Path → Root
user_root e = record { kind = user; target = e.1; label = user_label e.0.0 e.0.1 }

abbrev pub generation_root : Pair → ℕ × Path → Root
generation_root owned e = record { kind = profile; target = e.1; label = generation_label owned.0 owned.1 e.0 }

-- every generation of a profile is a root
abbrev pub generation_roots : Pair × Profile → List Root
generation_roots e = map (generation_root e.0) (finite.entries e.1.generations)

abbrev pub runtime_root : Pair → Root
runtime_root e = record { kind = runtime; target = e.1; label = e.0 }

-- the root of a session on a path, whoever owns the session
abbrev pub temporary_root : Temporary → Root
temporary_root t = record { kind = temporary; target = t.path; label = temporary_label t.session }

-- the roots that last until they are dropped: all but the runtime and the temporary roots
abbrev pub explicit_roots : World → List Root
explicit_roots w =
    map permanent_root (finite.entries w.permanent)
    ++ map user_root (finite.entries w.user_roots)
    ++ flat_map generation_roots (finite.entries w.profiles)

abbrev pub runtime_roots : World → List Root
runtime_roots w = map runtime_root (finite.keys w.runtime)

abbrev pub temporary_roots : World → List Root
temporary_roots w = map temporary_root (finite.keys w.temporary)

-- every root, in the order of roots; equal ones are one
abbrev pub roots_of : World → List Root
roots_of w = in_order (explicit_roots w ++ runtime_roots w ++ temporary_roots w)
