-- Laws of steps and runs, of denials for what lives, and of usage.
use Rattle.std.specs.Prelude.{◌≡◌, ◌⊎◌, ◌+◌, ◌++◌, false, List, ◌∷◌, Option, Some, None, IsTrue}
use Rattle.paths.specs.Root.{Root}
use Rattle.live.specs.Live.{IsFirstRoot}
use Rattle.model.specs.World.{Path, Pair, World, roots_of}
use Rattle.policy.specs.Settings.{Settings}
use Rattle.policy.specs.Caller.{Caller}
use Rattle.policy.specs.Class.{class_of}
use Rattle.model.specs.Request.{Request}
use Rattle.model.specs.Reply.{denied, failed}
use Rattle.model.specs.Liveness.{graph_of, keep_of, lives}
use Rattle.model.specs.Seen.{seen_root}
use Rattle.model.specs.Step.{Step, Run}
use Rattle.model.specs.Verdict.{named_in, verdict, shown}
use Rattle.policy.specs.declared.kinds.Rule.{Rule}
use Rattle.policy.specs.declared.kinds.Rule.TheVariants.{Live}
use Rattle.std.specs.List.{list_any}
use Rattle.model.specs.Reply.{Failed, HasFailed, IsDone, Reply, Usage}

-- a call that isn't done leaves the world
abbrev pub LeavesUnlessDone : Type 0
LeavesUnlessDone = (s : Settings) (w : World) (c : Caller) (q : Request) (reply : Reply) (new : World)
    → Step s w c q reply new → (IsDone reply → ⊥) → new ≡ w

-- a call fails only where no rule denies it, or `Live` alone
abbrev pub FailsPastTheRules : Type 0
FailsPastTheRules = (s : Settings) (w : World) (c : Caller) (q : Request) (f : Failed) (new : World)
    → Step s w c q (failed f) new → (verdict s w c q ≡ None) ⊎ (verdict s w c q ≡ Some Live)

-- a call may fail for any cause where no rule denies it, or `Live` alone
abbrev pub MayFail : Type 0
MayFail = (s : Settings) (w : World) (c : Caller) (q : Request) (f : Failed)
    → (verdict s w c q ≡ None) ⊎ (verdict s w c q ≡ Some Live) → Step s w c q (failed f) w

-- a denial by a rule other than `Live` shows no root
abbrev pub OthersShowNoRoot : Type 0
OthersShowNoRoot =
    (s : Settings) (w : World) (c : Caller) (q : Request) (rule : Rule) (root : Option Pair) (new : World)
    → Step s w c q (denied rule root) new → (rule ≡ Live → ⊥) → root ≡ None

-- two replies that aren't failures are one, with one world after them
abbrev pub IsFunctional : Type 0
IsFunctional = (s : Settings) (w : World) (c : Caller) (q : Request) (r1 r2 : Reply) (new1 new2 : World)
    → Step s w c q r1 new1 → Step s w c q r2 new2 → (HasFailed r1 → ⊥) → (HasFailed r2 → ⊥) → (r1 ≡ r2) × (new1 ≡ new2)

-- there is always a reply that isn't a failure
abbrev pub IsAnswered : Type 0
IsAnswered =
    (s : Settings) (w : World) (c : Caller) (q : Request)
    → (reply : Reply) × (new : World) × Step s w c q reply new × (HasFailed reply → ⊥)

-- The worlds in between follow: two runs over the same calls with the same replies end alike.
abbrev pub RunsEndAlike : Type 0
RunsEndAlike = (s : Settings) (w new1 new2 : World) (calls : List (Caller × Request)) (replies : List Reply)
    → Run s w calls replies new1 → Run s w calls replies new2 → new1 ≡ new2

-- ---- what lives

-- A denial by `Live` is for the first of the named paths that is live, in the order given, and shows its first root.
pub record NamesTheLiving (s : Settings) (w : World) (c : Caller) (q : Request) : Type 0 where
  pub before : List Path
  pub path : Path
  pub after : List Path
  pub named : named_in q ≡ before ++ path ∷ after
  pub none_before : list_any (lives s w) before ≡ false
  pub alive : IsTrue (lives s w path)
  pub root : Root
  pub first : IsFirstRoot (keep_of s) (graph_of w) (roots_of w) path root
  pub is_shown : shown s w c q Live ≡ Some (seen_root (class_of s c) root)

abbrev pub DenialsNameTheLiving : Type 0
DenialsNameTheLiving =
    (s : Settings) (w : World) (c : Caller) (q : Request) → verdict s w c q ≡ Some Live → NamesTheLiving s w c q

-- live and dead add up to all
pub record UsageAddsUp (live dead total : Usage) : Type 0 where
  pub paths : live.paths + dead.paths ≡ total.paths
  pub bytes : live.bytes + dead.bytes ≡ total.bytes
