-- Laws of what listings of roots have after a call: what came, what was dropped, and nothing else.
use Rattle.std.specs.Prelude.{◌≡◌, ◌⊎◌, ℕ, ◌++◌, List, codes, decimal, IsTrue, Contains}
use Rattle.std.specs.FinMap as finite
use Rattle.paths.specs.Root.{Kind, permanent, user, profile, runtime, temporary, Root, permanent_label, user_label}
use Rattle.paths.specs.Root.{generation_label, temporary_label}
use Rattle.live.specs.Reach.{Reaches}
use Rattle.policy.specs.Settings.{Settings}
use Rattle.policy.specs.Caller.{Caller}
use Rattle.policy.specs.Class.{class_of}
use Rattle.policy.specs.Rules.{is_trusted}
use Rattle.model.specs.World.{Path, Pair, World, has, permanent_root, user_root, generation_root, runtime_root}
use Rattle.model.specs.World.{temporary_root, roots_of}
use Rattle.model.specs.Sound.{IsSound}
use Rattle.model.specs.Request.{list_roots, list_roots_of, set_permanent, drop_permanent, set_user_root, drop_user_root}
use Rattle.model.specs.Request.{set_profile, rollback, switch, delete_generation, replace_runtime, add_temp}
use Rattle.model.specs.Request.{end_session}
use Rattle.model.specs.Reply.{Answer, generation, done}
use Rattle.model.specs.Liveness.{graph_of, keep_of}
use Rattle.model.specs.Step.{Step}
use Rattle.laws.specs.ReadOnly.{ShowsExactly}
use Rattle.laws.specs.ListedRoots.{Shows}

-- A caller who asks for all roots, or for those of a path, gets exactly the roots of which something is true, as the
-- caller sees them.
pub record ListsRoots (s : Settings) (w : World) (c : Caller) (Holds : Root → Type 0) : Type 0 where
  pub all : (a : Answer) (new : World) → Step s w c list_roots (done a) new → ShowsExactly s c Holds a
  pub of : (p : Path) (a : Answer) (new : World) → Step s w c (list_roots_of p) (done a) new
      → ShowsExactly s c (λ r. Holds r × Reaches (keep_of s) (graph_of w) r.target p) a

-- a root of a world, and not the one of this kind that has this label
pub record CoexistedWith (w : World) (kind : Kind) (label : List ℕ) (r : Root) : Type 0 where
  pub existed : Contains (roots_of w) r
  pub other : r.kind ≡ kind → r.label ≡ label → ⊥

-- the root is that of a pair which was given, and whose target is valid
pub record IsGiven (w : World) (pairs : List Pair) (r : Root) : Type 0 where
  pub pair : Pair
  pub listed : Contains pairs pair
  pub valid : IsTrue (has w pair.1)
  pub is : r ≡ runtime_root pair

-- a session of the same number keeps the path, but another owner's
pub record IsKeptByAnother (w : World) (owner : List ℕ) (session : ℕ) (r : Root) : Type 0 where
  pub foreign_owner : List ℕ
  pub other : foreign_owner ≡ owner → ⊥
  pub keeps :
      IsTrue (finite.contains_key w.temporary (record { owner = foreign_owner; session = session; path = r.target }))
  pub is : r ≡ temporary_root (record { owner = foreign_owner; session = session; path = r.target })

-- What was dropped isn't listed to whoever asks next, and every other root from before is: a permanent root, a user
-- root, a generation; the runtime roots that aren't among those given; and what a session kept, but for what another
-- owner's session of its number keeps.
pub record DroppedRootsAreNotListed (s : Settings) (w : World) (c : Caller) (mid : World) (next : Caller) : Type 0 where
  pub permanent_ : (name : List ℕ) (a : Answer) → Step s w c (drop_permanent name) (done a) mid
      → ListsRoots s mid next (CoexistedWith w permanent (permanent_label name))
  pub user_ : (owner name : List ℕ) (a : Answer) → Step s w c (drop_user_root owner name) (done a) mid
      → ListsRoots s mid next (CoexistedWith w user (user_label owner name))
  pub generation_ : (owner name : List ℕ) (n : ℕ) (a : Answer)
      → Step s w c (delete_generation owner name n) (done a) mid
      → ListsRoots s mid next (CoexistedWith w profile (generation_label owner name n))
  pub runtime_ : (pairs : List Pair) (a : Answer) → Step s w c (replace_runtime pairs) (done a) mid
      → ListsRoots s mid next (λ r. IsGiven w pairs r ⊎ (Contains (roots_of w) r × (r.kind ≡ runtime → ⊥)))
  pub session_ : (owner : List ℕ) (session : ℕ) (a : Answer) → Step s w c (end_session owner session) (done a) mid
      → ListsRoots s mid next
      (λ r. IsKeptByAnother w owner session r ⊎ CoexistedWith w temporary (temporary_label session) r)

-- What was set is listed, and so is every root from before but one that it replaced: a permanent root, or a user root,
-- of its name. A profile that goes to another generation keeps all of them.
pub record SetRootsCome (s : Settings) (w : World) (c : Caller) (mid : World) (next : Caller) : Type 0 where
  pub permanent_ : (name : List ℕ) (p : Path) (a : Answer) → Step s w c (set_permanent name p) (done a) mid
      → ListsRoots s mid next (λ r. (r ≡ permanent_root (name, p)) ⊎ CoexistedWith w permanent (permanent_label name) r)
  pub user_ : (owner name : List ℕ) (p : Path) (a : Answer) → Step s w c (set_user_root owner name p) (done a) mid
      → ListsRoots s mid next (λ r. (r ≡ user_root ((owner, name), p)) ⊎ CoexistedWith w user (user_label owner name) r)
  pub generation_ : (owner name : List ℕ) (p : Path) (n : ℕ)
      → Step s w c (set_profile owner name p) (done (generation n)) mid
      → ListsRoots s mid next (λ r. (r ≡ generation_root (owner, name) (n, p)) ⊎ Contains (roots_of w) r)
  pub back : (owner name : List ℕ) (a : Answer) → Step s w c (rollback owner name) (done a) mid
      → ListsRoots s mid next (Contains (roots_of w))
  pub switch_ : (owner name : List ℕ) (n : ℕ) (a : Answer) → Step s w c (switch owner name n) (done a) mid
      → ListsRoots s mid next (Contains (roots_of w))
  pub session_ : (owner : List ℕ) (session : ℕ) (p : Path) (a : Answer)
      → Step s w c (add_temp owner session p) (done a) mid
      → ListsRoots s mid next
      (λ r. (r ≡ temporary_root (record { owner = owner; session = session; path = p })) ⊎ Contains (roots_of w) r)

-- from a sound world
abbrev pub DropsAreListed : Type 0
DropsAreListed =
    (s : Settings) (w : World) (c : Caller) (mid : World) (next : Caller) → IsSound s.store_dir w
    → DroppedRootsAreNotListed s w c mid next

abbrev pub SetsAreListed : Type 0
SetsAreListed =
    (s : Settings) (w : World) (c : Caller) (mid : World) (next : Caller) → IsSound s.store_dir w
    → SetRootsCome s w c mid next

-- ---- labels

-- A caller who asks for all roots, or for those of a path, doesn't get this label, but for a runtime root's, which a
-- trusted caller gets.
pub record ListsNoMore (s : Settings) (w : World) (c : Caller) (label : List ℕ) : Type 0 where
  pub all : (a : Answer) (new : World) → Step s w c list_roots (done a) new
      → (p : Path) → Shows a (label, p)
      → IsTrue (is_trusted (class_of s c)) × IsTrue (finite.contains_key w.runtime (label, p))
  pub of : (q : Path) (a : Answer) (new : World) → Step s w c (list_roots_of q) (done a) new
      → (p : Path) → Shows a (label, p)
      → IsTrue (is_trusted (class_of s c)) × IsTrue (finite.contains_key w.runtime (label, p))

-- the label of a permanent root, of a user root or of a generation that was dropped is no longer listed
pub record DroppedLabelsDisappear (s : Settings) (w : World) (c : Caller) (mid : World) (next : Caller) : Type 0 where
  pub permanent_ : (name : List ℕ) (a : Answer) → Step s w c (drop_permanent name) (done a) mid
      → ListsNoMore s mid next (codes "gcroots/" ++ name)
  pub user_ : (owner name : List ℕ) (a : Answer) → Step s w c (drop_user_root owner name) (done a) mid
      → ListsNoMore s mid next (codes "gcroots/per-user/" ++ owner ++ codes "/" ++ name)
  pub generation_ : (owner name : List ℕ) (n : ℕ) (a : Answer)
      → Step s w c (delete_generation owner name n) (done a) mid
      → ListsNoMore s mid next
      (codes "profiles/per-user/" ++ owner ++ codes "/" ++ name ++ codes "-" ++ decimal n ++ codes "-link")

abbrev pub DroppedLabelsAreNotListed : Type 0
DroppedLabelsAreNotListed =
    (s : Settings) (w : World) (c : Caller) (mid : World) (next : Caller) → IsSound s.store_dir w
    → DroppedLabelsDisappear s w c mid next
