-- What a collection and a deletion leave.
use Rattle.std.specs.Prelude.{◌≡◌, ◌↔◌, ℕ, Bool, false, List, [], Some, None, IsTrue, IsFalse}
use Rattle.std.specs.FinMap as finite
use Rattle.model.specs.World.{Path, Object, World, has, all_paths}
use Rattle.policy.specs.Settings.{Settings}
use Rattle.policy.specs.Caller.{Caller}
use Rattle.model.specs.Request.{collect, delete}
use Rattle.model.specs.Reply.{done, freed}
use Rattle.model.specs.Liveness.{graph_of, lives}
use Rattle.model.specs.Step.{Step}
use Rattle.std.specs.Prelude.{not, length}
use Rattle.live.specs.Limited.{DeletesGroups, is_among}
use Rattle.model.specs.Reply.{Answer, IsDone, Reply}

-- the roots and profiles are the same
pub record KeepsRoots (w new : World) : Type 0 where
  pub permanent : new.permanent ≡ w.permanent
  pub user_roots : new.user_roots ≡ w.user_roots
  pub profiles : new.profiles ≡ w.profiles
  pub runtime : new.runtime ≡ w.runtime
  pub temporary : new.temporary ≡ w.temporary

-- From the one world to the other exactly the dead paths were deleted: each live object is unchanged, no other path is
-- valid, roots and profiles are the same, and a further collection frees nothing.
pub record CollectsExactly (s : Settings) (w new : World) : Type 0 where
  pub kept : (p : Path) → IsTrue (lives s w p) → finite.get new.objects p ≡ finite.get w.objects p
  pub deleted : (p : Path) → IsFalse (lives s w p) → IsFalse (has new p)
  pub roots : KeepsRoots w new
  pub once : (c : Caller) (reply : Reply) (last : World) → Step s new c (collect false None) reply last → IsDone reply
      → (reply ≡ done (freed [] 0)) × (last ≡ new)

abbrev pub Collects : Type 0
Collects = (s : Settings) (w : World) (c : Caller) (ignores : Bool) (reply : Reply) (new : World)
    → Step s w c (collect ignores None) reply new → IsDone reply → CollectsExactly s w new

-- With a limit some dead paths are deleted, and none that another path refers to which is left: each live object is
-- unchanged, and so is each other object that is left; roots and profiles are the same. A limit of no bytes removes
-- nothing.
pub record CollectsSome (s : Settings) (w : World) (limit : ℕ) (new : World) : Type 0 where
  pub kept : (p : Path) → IsTrue (lives s w p) → finite.get new.objects p ≡ finite.get w.objects p
  pub left : (p : Path) → IsTrue (has new p) → finite.get new.objects p ≡ finite.get w.objects p
  pub references : (p : Path) (o : Object) → finite.get new.objects p ≡ Some o
      → (r : Path) → IsTrue (finite.contains_key o.references r) → IsTrue (has w r) → IsTrue (has new r)
  pub roots : KeepsRoots w new
  pub none : limit ≡ 0 → (p : Path) → finite.get new.objects p ≡ finite.get w.objects p

abbrev pub CollectsUpToALimit : Type 0
CollectsUpToALimit = (s : Settings) (w : World) (c : Caller) (ignores : Bool) (limit : ℕ) (reply : Reply) (new : World)
    → Step s w c (collect ignores (Some limit)) reply new → IsDone reply → CollectsSome s w limit new

-- After a deletion no reference of an object that is left points at a path that was deleted.
abbrev pub LeavesNoReference : Type 0
LeavesNoReference =
    (s : Settings) (w : World) (c : Caller) (named : List Path) (ignores : Bool) (reply : Reply) (new : World)
    → Step s w c (delete named ignores) reply new → IsDone reply
    → (p : Path) (o : Object) → finite.get new.objects p ≡ Some o
    → (r : Path) → IsTrue (finite.contains_key o.references r) → IsTrue (has w r) → IsTrue (has new r)

-- What was deleted is what groups of dead paths have, one group after another: each is deleted while the archives of
-- those before it have fewer bytes than the limit, and at the end they have as many, or no dead path is left.
pub record DeletesByBytes (s : Settings) (w : World) (limit : ℕ) (new : World) : Type 0 where
  pub size : Path → ℕ
  pub bytes : (p : Path) (o : Object) → finite.get w.objects p ≡ Some o → size p ≡ length o.nar
  pub groups : List (List Path)
  pub takes : DeletesGroups (graph_of w) (λ p. not (lives s w p)) size (all_paths w) limit groups
  pub removed : (p : Path) → IsTrue (has w p) → IsFalse (has new p) ↔ IsTrue (is_among groups p)

abbrev pub CollectsByBytes : Type 0
CollectsByBytes = (s : Settings) (w : World) (c : Caller) (ignores : Bool) (limit : ℕ) (a : Answer) (new : World)
    → Step s w c (collect ignores (Some limit)) (done a) new → DeletesByBytes s w limit new
