-- Laws of what belongs to others: what a caller may do to it, and what the rules leave to whom.
use Rattle.std.specs.Prelude.{◌≡◌, ℕ, List, Some, None, IsTrue, IsFalse}
use Rattle.std.specs.FinMap as finite
use Rattle.policy.specs.Settings.{Settings}
use Rattle.policy.specs.Caller.{Caller}
use Rattle.policy.specs.Class.{class_of}
use Rattle.policy.specs.Rules.{is_stranger, is_trusted}
use Rattle.model.specs.World.{Path, Pair, Profile, World}
use Rattle.model.specs.Request.{Imported, Request, import_object, set_permanent, drop_permanent, set_user_root}
use Rattle.model.specs.Request.{drop_user_root, set_profile, rollback, switch, delete_generation, replace_runtime}
use Rattle.model.specs.Request.{add_temp, end_session}
use Rattle.model.specs.Reply.{Reply}
use Rattle.model.specs.Verdict.{verdict}
use Rattle.model.specs.Step.{Step}

-- ---- what nobody does for another

-- a profile after a call compared with the same before: the current generation is as it was, and there are none but
-- those that were
pub record HasNoMore (before now : Profile) : Type 0 where
  pub current : now.current ≡ before.current
  pub current_target : finite.get now.generations now.current ≡ finite.get before.generations before.current
  pub generations : (n : ℕ) (t : Path) → finite.get now.generations n ≡ Some t
      → finite.get before.generations n ≡ Some t

-- Of what an owner has things may be dropped, and nothing else changes: no root comes or gets another target, no
-- profile comes or is dropped, or moves to another generation.
pub record OnlyLoses (owner : List ℕ) (w new : World) : Type 0 where
  pub user_roots : (name : List ℕ) (t : Path) → finite.get new.user_roots (owner, name) ≡ Some t
      → finite.get w.user_roots (owner, name) ≡ Some t
  pub profiles : (name : List ℕ)
      → finite.contains_key new.profiles (owner, name) ≡ finite.contains_key w.profiles (owner, name)
  pub generations : (name : List ℕ) (now : Profile) → finite.get new.profiles (owner, name) ≡ Some now
      → (before : Profile) × (finite.get w.profiles (owner, name) ≡ Some before) × HasNoMore before now
  pub temporary : (session : ℕ) (p : Path)
      → IsTrue (finite.contains_key new.temporary (record { owner = owner; session = session; path = p }))
      → IsTrue (finite.contains_key w.temporary (record { owner = owner; session = session; path = p }))

-- Whoever calls, trusted or not: what another owns only loses by it.
abbrev pub OthersOnlyLose : Type 0
OthersOnlyLose =
    (s : Settings) (w : World) (c : Caller) (q : Request) (reply : Reply) (new : World) → Step s w c q reply new
    → (owner : List ℕ) → (owner ≡ c.name → ⊥) → OnlyLoses owner w new

-- ---- what the rules leave to whom

-- what a trusted caller may do: import any object, change permanent and runtime roots, and drop, delete or end what
-- anyone owns
pub record MayAsTrusted (s : Settings) (w : World) (c : Caller) : Type 0 where
  pub import : (i : Imported) → verdict s w c (import_object i) ≡ None
  pub set_permanent : (name : List ℕ) (p : Path) → verdict s w c (set_permanent name p) ≡ None
  pub drop_permanent : (name : List ℕ) → verdict s w c (drop_permanent name) ≡ None
  pub runtime : (pairs : List Pair) → verdict s w c (replace_runtime pairs) ≡ None
  pub user_root : (owner name : List ℕ) → verdict s w c (drop_user_root owner name) ≡ None
  pub generation : (owner name : List ℕ) (n : ℕ) → verdict s w c (delete_generation owner name n) ≡ None
  pub session : (owner : List ℕ) (session : ℕ) → verdict s w c (end_session owner session) ≡ None

abbrev pub TrustedMay : Type 0
TrustedMay = (s : Settings) (w : World) (c : Caller) → IsTrue (is_trusted (class_of s c)) → MayAsTrusted s w c

-- what each caller but a stranger may do with what they own: all that there is
pub record MayWithTheirOwn (s : Settings) (w : World) (c : Caller) : Type 0 where
  pub set_user_root : (name : List ℕ) (p : Path) → verdict s w c (set_user_root c.name name p) ≡ None
  pub drop_user_root : (name : List ℕ) → verdict s w c (drop_user_root c.name name) ≡ None
  pub set_profile : (name : List ℕ) (p : Path) → verdict s w c (set_profile c.name name p) ≡ None
  pub rollback : (name : List ℕ) → verdict s w c (rollback c.name name) ≡ None
  pub switch : (name : List ℕ) (n : ℕ) → verdict s w c (switch c.name name n) ≡ None
  pub delete_generation : (name : List ℕ) (n : ℕ) → verdict s w c (delete_generation c.name name n) ≡ None
  pub add_temp : (session : ℕ) (p : Path) → verdict s w c (add_temp c.name session p) ≡ None
  pub end_session : (session : ℕ) → verdict s w c (end_session c.name session) ≡ None

abbrev pub OwnersMay : Type 0
OwnersMay = (s : Settings) (w : World) (c : Caller) → IsFalse (is_stranger (class_of s c)) → MayWithTheirOwn s w c
