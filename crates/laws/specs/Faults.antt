-- Laws of refusals: which fault of a request is reported.
use Rattle.std.specs.Prelude.{◌≡◌, ℕ, ◌≤◌, ◌⊎◌, Bool, List, IsTrue, IsFalse, Contains}
use Rattle.paths.specs.Names.{is_plain_name}
use Rattle.model.specs.World.{Path, World, has}
use Rattle.policy.specs.Settings.{Settings}
use Rattle.policy.specs.Caller.{Caller}
use Rattle.model.specs.Request.{Request, add_text, add_source, import_object, info, nar, ls, list, list_live, list_dead}
use Rattle.model.specs.Request.{list_roots, list_roots_of, set_permanent, drop_permanent, set_user_root, drop_user_root}
use Rattle.model.specs.Request.{set_profile, rollback, switch, delete_generation, replace_runtime, add_temp}
use Rattle.model.specs.Request.{end_session, collect, delete, report}
use Rattle.model.specs.Reply.{Reply, Answer, done, denied, refused, failed}
use Rattle.model.specs.declared.refusal.Refusal.{Refusal}
use Rattle.model.specs.declared.refusal.Refusal.TheVariants.{BadRootName, BadSession, NotValid, NoProfile}
use Rattle.model.specs.Profiles.{has_profile}
use Rattle.model.specs.Step.{Step}

-- ---- sessions

-- the numbers of sessions: 1 to 4,194,304
pub record IsInBounds (session : ℕ) : Type 0 where
  pub lowest : 1 ≤ session
  pub highest : session ≤ 4194304

-- the first fault of a request on a session: an owner that isn't a plain name, or a number that no session has
pub data SessionFault (owner : List ℕ) (session : ℕ) (r : Refusal) : Type 0 where
  owner_ : IsFalse (is_plain_name owner) → r ≡ BadRootName → SessionFault owner session r
  number : IsTrue (is_plain_name owner) → (IsInBounds session → ⊥) → r ≡ BadSession → SessionFault owner session r

-- no such fault
pub record IsSessionOf (owner : List ℕ) (session : ℕ) : Type 0 where
  pub owner_ : IsTrue (is_plain_name owner)
  pub number : IsInBounds session

-- A path is kept for a session where nothing is wrong with the session and the path is valid; else the first fault is
-- reported, that of the path last.
pub record ReportsTemporaryFault (s : Settings) (w : World) (c : Caller) (owner : List ℕ) (session : ℕ)
    (p : Path) : Type 0 where
  pub done_ : (a : Answer) (new : World) → Step s w c (add_temp owner session p) (done a) new
      → IsSessionOf owner session × IsTrue (has w p)
  pub refused_ : (r : Refusal) (new : World) → Step s w c (add_temp owner session p) (refused r) new
      → SessionFault owner session r ⊎ (IsSessionOf owner session × IsFalse (has w p) × (r ≡ NotValid))

-- a session is ended where nothing is wrong with it, whether it kept anything or not
pub record ReportsSessionFault (s : Settings) (w : World) (c : Caller) (owner : List ℕ) (session : ℕ) : Type 0 where
  pub done_ : (a : Answer) (new : World) → Step s w c (end_session owner session) (done a) new
      → IsSessionOf owner session
  pub refused_ : (r : Refusal) (new : World) → Step s w c (end_session owner session) (refused r) new
      → SessionFault owner session r

abbrev pub SessionFaultsAreReported : Type 0
SessionFaultsAreReported = (s : Settings) (w : World) (c : Caller) (owner : List ℕ) (session : ℕ)
    → ((p : Path) → ReportsTemporaryFault s w c owner session p) × ReportsSessionFault s w c owner session

-- ---- names and profiles

-- a name of the request isn't plain
abbrev pub HasBadName : Request → Type 0
HasBadName (set_permanent name p) = IsFalse (is_plain_name name)
HasBadName (drop_permanent name) = IsFalse (is_plain_name name)
HasBadName (set_user_root owner name p) = IsFalse (is_plain_name owner) ⊎ IsFalse (is_plain_name name)
HasBadName (drop_user_root owner name) = IsFalse (is_plain_name owner) ⊎ IsFalse (is_plain_name name)
HasBadName (set_profile owner name p) = IsFalse (is_plain_name owner) ⊎ IsFalse (is_plain_name name)
HasBadName (rollback owner name) = IsFalse (is_plain_name owner) ⊎ IsFalse (is_plain_name name)
HasBadName (switch owner name n) = IsFalse (is_plain_name owner) ⊎ IsFalse (is_plain_name name)
HasBadName (delete_generation owner name n) = IsFalse (is_plain_name owner) ⊎ IsFalse (is_plain_name name)
HasBadName (add_temp owner session p) = IsFalse (is_plain_name owner)
HasBadName (end_session owner session) = IsFalse (is_plain_name owner)
HasBadName (add_text name refs contents) = ⊥
HasBadName (add_source name refs b) = ⊥
HasBadName (import_object i) = ⊥
HasBadName (info p) = ⊥
HasBadName (nar p) = ⊥
HasBadName (ls p) = ⊥
HasBadName list = ⊥
HasBadName list_live = ⊥
HasBadName list_dead = ⊥
HasBadName list_roots = ⊥
HasBadName (list_roots_of p) = ⊥
HasBadName (replace_runtime pairs) = ⊥
HasBadName (collect ignores limit) = ⊥
HasBadName (delete named ignores) = ⊥
HasBadName report = ⊥

-- the names are plain, and there is no profile of them
pub record IsNoProfile (w : World) (owner name : List ℕ) : Type 0 where
  pub owner_ : IsTrue (is_plain_name owner)
  pub name_ : IsTrue (is_plain_name name)
  pub none : IsFalse (has_profile w (owner, name))

-- the request is on a generation of a profile that isn't there
abbrev pub HasNoProfile : World → Request → Type 0
HasNoProfile w (rollback owner name) = IsNoProfile w owner name
HasNoProfile w (switch owner name n) = IsNoProfile w owner name
HasNoProfile w (delete_generation owner name n) = IsNoProfile w owner name
HasNoProfile w (add_text name refs contents) = ⊥
HasNoProfile w (add_source name refs b) = ⊥
HasNoProfile w (import_object i) = ⊥
HasNoProfile w (info p) = ⊥
HasNoProfile w (nar p) = ⊥
HasNoProfile w (ls p) = ⊥
HasNoProfile w list = ⊥
HasNoProfile w list_live = ⊥
HasNoProfile w list_dead = ⊥
HasNoProfile w list_roots = ⊥
HasNoProfile w (list_roots_of p) = ⊥
HasNoProfile w (set_permanent name p) = ⊥
HasNoProfile w (drop_permanent name) = ⊥
HasNoProfile w (set_user_root owner name p) = ⊥
HasNoProfile w (drop_user_root owner name) = ⊥
HasNoProfile w (set_profile owner name p) = ⊥
HasNoProfile w (replace_runtime pairs) = ⊥
HasNoProfile w (add_temp owner session p) = ⊥
HasNoProfile w (end_session owner session) = ⊥
HasNoProfile w (collect ignores limit) = ⊥
HasNoProfile w (delete named ignores) = ⊥
HasNoProfile w report = ⊥

-- what a call that the rules allow is refused with, unless it fails
abbrev pub IsRefusedWith : Refusal → Reply → Type 0
IsRefusedWith r (refused x) = x ≡ r
IsRefusedWith r (done a) = ⊥
IsRefusedWith r (denied rule root) = Unit {0}
IsRefusedWith r (failed f) = Unit {0}

-- a name that isn't plain is reported before any other fault
abbrev pub NamesComeFirst : Type 0
NamesComeFirst =
    (s : Settings) (w : World) (c : Caller) (q : Request) (reply : Reply) (new : World) → Step s w c q reply new
    → HasBadName q → IsRefusedWith BadRootName reply

-- a profile that isn't there is reported before any fault of a generation
abbrev pub ProfilesComeNext : Type 0
ProfilesComeNext =
    (s : Settings) (w : World) (c : Caller) (q : Request) (reply : Reply) (new : World) → Step s w c q reply new
    → HasNoProfile w q → IsRefusedWith NoProfile reply

-- of a profile a path that isn't valid is reported before a number that is beyond the greatest
abbrev pub PathsComeBeforeNumbers : Type 0
PathsComeBeforeNumbers =
    (s : Settings) (w : World) (c : Caller) (owner name : List ℕ) (p : Path) (reply : Reply) (new : World)
    → Step s w c (set_profile owner name p) reply new
    → IsTrue (is_plain_name owner) → IsTrue (is_plain_name name) → IsFalse (has w p) → IsRefusedWith NotValid reply

-- ---- deletions

-- a deletion that is done named valid paths alone
abbrev pub NamedAreValid : Type 0
NamedAreValid = (s : Settings) (w : World) (c : Caller) (named : List Path) (ignores : Bool) (a : Answer) (new : World)
    → Step s w c (delete named ignores) (done a) new → (p : Path) → Contains named p → IsTrue (has w p)
