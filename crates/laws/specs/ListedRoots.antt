-- Laws of what is listed of a root that was set.
use Rattle.std.specs.Prelude.{ℕ, ◌++◌, List, codes, decimal, IsTrue, IsFalse, Contains}
use Rattle.policy.specs.Settings.{Settings}
use Rattle.policy.specs.Caller.{Caller}
use Rattle.policy.specs.Class.{class_of}
use Rattle.policy.specs.Rules.{is_trusted}
use Rattle.model.specs.World.{Path, Pair, World, has}
use Rattle.model.specs.Request.{list_roots, list_roots_of, set_permanent, set_user_root, set_profile, replace_runtime}
use Rattle.model.specs.Request.{add_temp}
use Rattle.model.specs.Reply.{Answer, roots, generation, done}
use Rattle.model.specs.Step.{Step}

-- a label and its target are among the roots that are answered
abbrev pub Shows : Answer → Pair → Type 0
Shows (roots reported) pair = Contains reported pair
Shows _ pair = ⊥

-- a caller who asks gets a label with its target: of all roots, and of those that reach the target
pub record ListsRoot (s : Settings) (w : World) (c : Caller) (pair : Pair) : Type 0 where
  pub all : (a : Answer) (new : World) → Step s w c list_roots (done a) new → Shows a pair
  pub of : (a : Answer) (new : World) → Step s w c (list_roots_of pair.1) (done a) new → Shows a pair

-- the label is listed to trusted callers alone, and to any other that there is such a root
pub record ListsHidden (s : Settings) (w : World) (c : Caller) (label : List ℕ) (p : Path) : Type 0 where
  pub trusted : IsTrue (is_trusted (class_of s c)) → ListsRoot s w c (label, p)
  pub others : IsFalse (is_trusted (class_of s c)) → ListsRoot s w c (codes "{censored}", p)

-- A root that was set is listed to each caller who asks next: a permanent root, a user root, the generation of a
-- profile that got a path; and a runtime root whose target is valid, and what a session keeps, with their labels
-- hidden.
pub record SetRootsAreListed (s : Settings) (w : World) (c : Caller) (mid : World) (next : Caller) : Type 0 where
  pub permanent : (name : List ℕ) (p : Path) (a : Answer) → Step s w c (set_permanent name p) (done a) mid
      → ListsRoot s mid next (codes "gcroots/" ++ name, p)
  pub user : (owner name : List ℕ) (p : Path) (a : Answer) → Step s w c (set_user_root owner name p) (done a) mid
      → ListsRoot s mid next (codes "gcroots/per-user/" ++ owner ++ codes "/" ++ name, p)
  pub profile : (owner name : List ℕ) (p : Path) (n : ℕ)
      → Step s w c (set_profile owner name p) (done (generation n)) mid
      → ListsRoot s mid next
      (codes "profiles/per-user/" ++ owner ++ codes "/" ++ name ++ codes "-" ++ decimal n ++ codes "-link", p)
  pub runtime : (pairs : List Pair) (a : Answer) → Step s w c (replace_runtime pairs) (done a) mid
      → (pair : Pair) → Contains pairs pair → IsTrue (has w pair.1) → ListsHidden s mid next pair.0 pair.1
  pub temporary : (owner : List ℕ) (session : ℕ) (p : Path) (a : Answer)
      → Step s w c (add_temp owner session p) (done a) mid
      → ListsHidden s mid next (codes "{temp:" ++ decimal session ++ codes "}") p

abbrev pub RootsSetAreListed : Type 0
RootsSetAreListed =
    (s : Settings) (w : World) (c : Caller) (mid : World) (next : Caller) → SetRootsAreListed s w c mid next
