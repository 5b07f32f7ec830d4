-- The law of a collection up to a limit where no references make a cycle: paths go one by one, each after all that
-- refer to it.
use Rattle.std.specs.Prelude.{◌≡◌, ◌↔◌, ◌⊎◌, ℕ, ◌<◌, ◌≤◌, ◌++◌, Bool, List, ◌∷◌, Some, IsTrue, IsFalse, Contains}
use Rattle.std.specs.FinMap as finite
use Rattle.std.specs.declared.cmp.Ordering.TheVariants.{Less}
use Rattle.paths.specs.Root.{bytes_cmp}
use Rattle.live.specs.Graph.{references_only}
use Rattle.live.specs.Reach.{Reaches}
use Rattle.model.specs.World.{Path, Object, World, has}
use Rattle.policy.specs.Settings.{Settings}
use Rattle.policy.specs.Caller.{Caller}
use Rattle.model.specs.Request.{collect}
use Rattle.model.specs.Reply.{Answer, done}
use Rattle.model.specs.Liveness.{graph_of, lives}
use Rattle.model.specs.Step.{Step}
use Rattle.laws.specs.Changes.{Weigh}

-- no two paths reach each other by references
abbrev pub HasNoCycle : World → Type 0
HasNoCycle w =
    (p q : Path) → Reaches references_only (graph_of w) p q → Reaches references_only (graph_of w) q p → p ≡ q

-- A path may be deleted next if it is valid, dead and not deleted yet, all others that refer to it are deleted, and the
-- archives deleted so far have fewer bytes than the limit.
pub record MayBeNext (s : Settings) (w : World) (limit : ℕ) (deleted : List Path) (p : Path) : Type 0 where
  pub present : IsTrue (has w p)
  pub dead : IsFalse (lives s w p)
  pub fresh : Contains deleted p → ⊥
  pub referrers : (q : Path) (o : Object) → finite.get w.objects q ≡ Some o
      → IsTrue (finite.contains_key o.references p) → (q ≡ p → ⊥) → Contains deleted q
  pub wanted : (bytes : ℕ) → Weigh w deleted bytes → bytes < limit

-- Paths are deleted one by one, each the least that may be next. At the end the archives deleted have as many bytes as
-- the limit, or no dead path is left.
pub record CollectsOneByOne (s : Settings) (w : World) (limit : ℕ) (new : World) : Type 0 where
  pub order : List Path
  pub each : (before after : List Path) (p : Path) → order ≡ before ++ p ∷ after → MayBeNext s w limit before p
  pub least : (before after : List Path) (p : Path) → order ≡ before ++ p ∷ after
      → (q : Path) → MayBeNext s w limit before q
      → bytes_cmp q p ≡ Less → ⊥
  pub removed : (p : Path) → IsTrue (has w p) → IsFalse (has new p) ↔ Contains order p
  pub enough : (bytes : ℕ) → Weigh w order bytes → (limit ≤ bytes)
      ⊎ ((p : Path) → IsTrue (has w p) → IsFalse (lives s w p) → Contains order p)

abbrev pub ReferrersAreDeletedFirst : Type 0
ReferrersAreDeletedFirst =
    (s : Settings) (w : World) (c : Caller) (ignores : Bool) (limit : ℕ) (a : Answer) (new : World)
    → Step s w c (collect ignores (Some limit)) (done a) new → HasNoCycle w → CollectsOneByOne s w limit new
