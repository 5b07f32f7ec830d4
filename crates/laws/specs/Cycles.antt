-- The law of a collection up to a limit where references make a cycle: the first dead path left, in path order, is
-- deleted with all that reach it.
use Rattle.std.specs.Prelude.{◌≡◌, ◌<◌, ◌↔◌, Bool, List, length, Some, IsTrue, Contains}
use Rattle.std.specs.List.Sorted.{IsStrictlySortedBy}
use Rattle.std.specs.declared.cmp.Ordering.TheVariants.{Less}
use Rattle.paths.specs.Root.{bytes_cmp}
use Rattle.live.specs.Graph.{Path, Graph, references_only}
use Rattle.live.specs.Reach.{reaches}
use Rattle.live.specs.Limited.{next_group}

-- a group of the paths left: the least of them that is dead, and all of them that reach it by references
pub record IsCycle (g : Graph) (dead : Path → Bool) (left group : List Path) : Type 0 where
  pub path : Path
  pub present : Contains left path
  pub is_dead : IsTrue (dead path)
  pub least : (q : Path) → Contains left q → IsTrue (dead q) → bytes_cmp q path ≡ Less → ⊥
  pub members : (q : Path) → Contains group q ↔ (Contains left q × IsTrue (reaches references_only g q path))

-- the next group of paths in their order, where it has more than one path
abbrev pub CyclesAreDeletedByTheLeast : Type 0
CyclesAreDeletedByTheLeast = (g : Graph) (dead : Path → Bool) (left group : List Path)
    → IsStrictlySortedBy bytes_cmp left → next_group g dead left ≡ Some group → 1 < length group
    → IsCycle g dead left group
