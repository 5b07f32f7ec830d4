-- Laws of roots: what is set is there with its target, what is dropped isn't, and nothing else changed.
use Rattle.std.specs.Prelude.{◌≡◌, ◌↔◌, ℕ, List, length, Some, IsTrue, IsFalse, Contains}
use Rattle.std.specs.List.Sorted.{IsStrictlySortedBy}
use Rattle.std.specs.FinMap as finite
use Rattle.model.specs.World.{Path, Pair, Temporary, temporary_cmp, World, has}
use Rattle.policy.specs.Settings.{Settings}
use Rattle.policy.specs.Caller.{Caller}
use Rattle.model.specs.Request.{set_permanent, drop_permanent, set_user_root, drop_user_root, replace_runtime, add_temp}
use Rattle.model.specs.Request.{end_session}
use Rattle.model.specs.Reply.{Answer, changed, runtime_count, temporary_count, done}
use Rattle.model.specs.Step.{Step}

-- ---- permanent roots

-- of the permanent roots the one of this name alone changed, and nothing else did
pub record ChangesPermanent (w new : World) (name : List ℕ) : Type 0 where
  pub others : (other : List ℕ) → (other ≡ name → ⊥) → finite.get new.permanent other ≡ finite.get w.permanent other
  pub objects : new.objects ≡ w.objects
  pub user_roots : new.user_roots ≡ w.user_roots
  pub profiles : new.profiles ≡ w.profiles
  pub runtime : new.runtime ≡ w.runtime
  pub temporary : new.temporary ≡ w.temporary

-- one that is set is there with its target
abbrev pub SetsPermanent : Type 0
SetsPermanent =
    (s : Settings) (w : World) (c : Caller) (name : List ℕ) (p : Path) (a : Answer) (new : World)
    → Step s w c (set_permanent name p) (done a) new
    → (a ≡ changed) × (finite.get new.permanent name ≡ Some p) × ChangesPermanent w new name

-- one that is dropped was there, and isn't any more
abbrev pub DropsPermanent : Type 0
DropsPermanent =
    (s : Settings) (w : World) (c : Caller) (name : List ℕ) (a : Answer) (new : World)
    → Step s w c (drop_permanent name) (done a) new
    → (a ≡ changed) × IsTrue (finite.contains_key w.permanent name) × IsFalse (finite.contains_key new.permanent name)
    × ChangesPermanent w new name

-- ---- user roots

-- of the user roots the one of this owner and this name alone changed, and nothing else did
pub record ChangesUserRoot (w new : World) (owned : Pair) : Type 0 where
  pub others : (other : Pair) → (other ≡ owned → ⊥) → finite.get new.user_roots other ≡ finite.get w.user_roots other
  pub objects : new.objects ≡ w.objects
  pub permanent : new.permanent ≡ w.permanent
  pub profiles : new.profiles ≡ w.profiles
  pub runtime : new.runtime ≡ w.runtime
  pub temporary : new.temporary ≡ w.temporary

-- one that is set is there with its target
abbrev pub SetsUserRoots : Type 0
SetsUserRoots =
    (s : Settings) (w : World) (c : Caller) (owner name : List ℕ) (p : Path) (a : Answer) (new : World)
    → Step s w c (set_user_root owner name p) (done a) new
    → (a ≡ changed) × (finite.get new.user_roots (owner, name) ≡ Some p) × ChangesUserRoot w new (owner, name)

-- one that is dropped was there, and isn't any more
abbrev pub DropsUserRoots : Type 0
DropsUserRoots =
    (s : Settings) (w : World) (c : Caller) (owner name : List ℕ) (a : Answer) (new : World)
    → Step s w c (drop_user_root owner name) (done a) new
    → (a ≡ changed) × IsTrue (finite.contains_key w.user_roots (owner, name))
    × IsFalse (finite.contains_key new.user_roots (owner, name)) × ChangesUserRoot w new (owner, name)

-- ---- runtime roots

-- the runtime roots are the pairs that are given whose targets are valid, and the answer is their number; nothing else
-- changed
pub record ReplacesRuntime (w : World) (pairs : List Pair) (a : Answer) (new : World) : Type 0 where
  pub reported : a ≡ runtime_count (finite.len new.runtime)
  pub roots : (pair : Pair) → IsTrue (finite.contains_key new.runtime pair)
      ↔ (Contains pairs pair × IsTrue (has w pair.1))
  pub objects : new.objects ≡ w.objects
  pub permanent : new.permanent ≡ w.permanent
  pub user_roots : new.user_roots ≡ w.user_roots
  pub profiles : new.profiles ≡ w.profiles
  pub temporary : new.temporary ≡ w.temporary

abbrev pub ReplacesAsSpecified : Type 0
ReplacesAsSpecified = (s : Settings) (w : World) (c : Caller) (pairs : List Pair) (a : Answer) (new : World)
    → Step s w c (replace_runtime pairs) (done a) new → ReplacesRuntime w pairs a new

-- ---- what sessions keep

-- all but the temporary roots are as they were
pub record KeepsAllButTemporary (w new : World) : Type 0 where
  pub objects : new.objects ≡ w.objects
  pub permanent : new.permanent ≡ w.permanent
  pub user_roots : new.user_roots ≡ w.user_roots
  pub profiles : new.profiles ≡ w.profiles
  pub runtime : new.runtime ≡ w.runtime

-- one that is added is there, and each other is as it was
pub record AddsTemporary (w : World) (added : Temporary) (new : World) : Type 0 where
  pub present : IsTrue (finite.contains_key new.temporary added)
  pub others : (t : Temporary) → (t ≡ added → ⊥)
      → finite.contains_key new.temporary t ≡ finite.contains_key w.temporary t
  pub rest : KeepsAllButTemporary w new

abbrev pub AddsForSessions : Type 0
AddsForSessions =
    (s : Settings) (w : World) (c : Caller) (owner : List ℕ) (session : ℕ) (p : Path) (a : Answer) (new : World)
    → Step s w c (add_temp owner session p) (done a) new
    → (a ≡ changed) × AddsTemporary w (record { owner = owner; session = session; path = p }) new

-- What this session of this owner kept is deleted, and each other temporary root is as it was. The answer is the number
-- of those that were deleted, in order and each once.
pub record Ends (w : World) (owner : List ℕ) (session : ℕ) (a : Answer) (new : World) : Type 0 where
  pub removed : List Temporary
  pub reported : a ≡ temporary_count (length removed)
  pub listed : (t : Temporary) → Contains removed t
      ↔ (IsTrue (finite.contains_key w.temporary t) × (t.owner ≡ owner) × (t.session ≡ session))
  pub in_order : IsStrictlySortedBy temporary_cmp removed
  pub deleted : (t : Temporary) → t.owner ≡ owner → t.session ≡ session → IsFalse (finite.contains_key new.temporary t)
  pub others : (t : Temporary) → ((t.owner ≡ owner) × (t.session ≡ session) → ⊥)
      → finite.contains_key new.temporary t ≡ finite.contains_key w.temporary t
  pub rest : KeepsAllButTemporary w new

abbrev pub EndsSessions : Type 0
EndsSessions = (s : Settings) (w : World) (c : Caller) (owner : List ℕ) (session : ℕ) (a : Answer) (new : World)
    → Step s w c (end_session owner session) (done a) new → Ends w owner session a new
