-- Laws in the words of what people rely on: who changes what, and that nothing else changes.
use Rattle.std.specs.Prelude.{◌≡◌, ℕ, List, Some, None, IsTrue, IsFalse}
use Rattle.std.specs.FinMap as finite
use Rattle.paths.specs.ContentAddress.{ContentAddress, verifies}
use Rattle.policy.specs.Settings.{Settings}
use Rattle.policy.specs.Caller.{Caller}
use Rattle.policy.specs.Class.{class_of}
use Rattle.policy.specs.Rules.{is_stranger, is_trusted}
use Rattle.policy.specs.declared.kinds.Rule.TheVariants.{Connect}
use Rattle.model.specs.World.{Path, Object, World, has}
use Rattle.model.specs.Sound.{IsSound}
use Rattle.model.specs.Request.{Request}
use Rattle.model.specs.Reply.{Reply, denied}
use Rattle.model.specs.Step.{Step}
use Rattle.model.specs.Soundness.{IsWellFormed}

-- ---- strangers

-- a stranger changes nothing, and gets nothing but the denial
abbrev pub StrangersAreDenied : Type 0
StrangersAreDenied = (s : Settings) (w : World) (c : Caller) (q : Request) (reply : Reply) (new : World)
    → IsTrue (is_stranger (class_of s c)) → Step s w c q reply new → (reply ≡ denied Connect None) × (new ≡ w)

-- ---- objects

-- what is valid before and after a call has the same object
abbrev pub NothingIsReplaced : Type 0
NothingIsReplaced =
    (s : Settings) (w : World) (c : Caller) (q : Request) (reply : Reply) (new : World) → Step s w c q reply new
    → (p : Path) → IsTrue (has w p) → IsTrue (has new p) → finite.get new.objects p ≡ finite.get w.objects p

-- what a caller who isn't trusted adds has a content address, which verifies for its path, its references and its
-- archive
abbrev pub NobodyPlants : Type 0
NobodyPlants =
    (s : Settings) (w : World) (c : Caller) (q : Request) (reply : Reply) (new : World) → Step s w c q reply new
    → IsFalse (is_trusted (class_of s c)) → IsWellFormed q → IsSound s.store_dir w
    → (p : Path) (o : Object) → IsFalse (has w p) → finite.get new.objects p ≡ Some o
    → (a : ContentAddress) × (o.ca ≡ Some a) × IsTrue (verifies a s.store_dir p (finite.keys o.references) o.nar)

-- ---- whose roots

-- permanent and runtime roots change by calls of trusted callers alone
pub record KeepsOfTheTrusted (w new : World) : Type 0 where
  pub permanent : new.permanent ≡ w.permanent
  pub runtime : new.runtime ≡ w.runtime

-- what an owner has: user roots, profiles and what sessions keep
pub record KeepsOfOwner (owner : List ℕ) (w new : World) : Type 0 where
  pub user_roots : (name : List ℕ) → finite.get new.user_roots (owner, name) ≡ finite.get w.user_roots (owner, name)
  pub profiles : (name : List ℕ) → finite.get new.profiles (owner, name) ≡ finite.get w.profiles (owner, name)
  pub temporary : (session : ℕ) (p : Path)
      → finite.contains_key new.temporary (record { owner = owner; session = session; path = p })
      ≡ finite.contains_key w.temporary (record { owner = owner; session = session; path = p })

-- A caller who isn't trusted changes no permanent and no runtime root, and nothing that another owns.
abbrev pub RootsAreTheirOwners : Type 0
RootsAreTheirOwners =
    (s : Settings) (w : World) (c : Caller) (q : Request) (reply : Reply) (new : World) → Step s w c q reply new
    → IsFalse (is_trusted (class_of s c))
    → KeepsOfTheTrusted w new × ((owner : List ℕ) → (owner ≡ c.name → ⊥) → KeepsOfOwner owner w new)
