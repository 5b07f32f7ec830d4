-- Each entry of a table of roots is a root, and no other root is.
use Rattle.std.specs.Prelude.{◌≡◌, ℕ, List, Some, IsTrue, Contains}
use Rattle.std.specs.FinMap as finite
use Rattle.paths.specs.Root.{Root}
use Rattle.model.specs.World.{Path, Pair, Profile, Temporary, World, permanent_root, user_root, generation_root}
use Rattle.model.specs.World.{runtime_root, temporary_root, roots_of}

-- the root is that of an entry of a table of roots: every generation of every profile is one
pub data IsEntry (w : World) (r : Root) : Type 0 where
  of_permanent : (name : List ℕ) (t : Path) → finite.get w.permanent name ≡ Some t → permanent_root (name, t) ≡ r
      → IsEntry w r
  of_user : (owned : Pair) (t : Path) → finite.get w.user_roots owned ≡ Some t → user_root (owned, t) ≡ r → IsEntry w r
  of_generation : (owned : Pair) (p : Profile) (n : ℕ) (t : Path) → finite.get w.profiles owned ≡ Some p
      → finite.get p.generations n ≡ Some t
      → generation_root owned (n, t) ≡ r → IsEntry w r
  of_runtime : (pair : Pair) → IsTrue (finite.contains_key w.runtime pair) → runtime_root pair ≡ r → IsEntry w r
  of_temporary : (t : Temporary) → IsTrue (finite.contains_key w.temporary t) → temporary_root t ≡ r → IsEntry w r

-- each entry of a table of roots is a root of the world, and no other root is
pub record HasEachRoot (w : World) : Type 0 where
  pub permanent : (name : List ℕ) (t : Path) → finite.get w.permanent name ≡ Some t
      → Contains (roots_of w) (permanent_root (name, t))
  pub user : (owned : Pair) (t : Path) → finite.get w.user_roots owned ≡ Some t
      → Contains (roots_of w) (user_root (owned, t))
  pub generation : (owned : Pair) (p : Profile) (n : ℕ) (t : Path) → finite.get w.profiles owned ≡ Some p
      → finite.get p.generations n ≡ Some t
      → Contains (roots_of w) (generation_root owned (n, t))
  pub runtime : (r : Pair) → IsTrue (finite.contains_key w.runtime r) → Contains (roots_of w) (runtime_root r)
  pub temporary : (t : Temporary) → IsTrue (finite.contains_key w.temporary t)
      → Contains (roots_of w) (temporary_root t)
  pub no_other : (r : Root) → Contains (roots_of w) r → IsEntry w r
