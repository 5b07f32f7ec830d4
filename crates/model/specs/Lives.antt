-- What is live, and the first root that keeps it.
use Rattle.std.specs.Prelude.{◌≡◌, ◌↔◌, ◌⊎◌, slice_get, option_map, IsTrue, Contains}
use Rattle.paths.specs.Root.{Root}
use Rattle.live.specs.Live.{IsLive, IsDead}
use Rattle.live.specs.Laws.{HasFirstRoot}
use Rattle.model.specs.World.{Path, World, has, roots_of, all_paths}
use Rattle.model.specs.Sound.{IsSound}
use Rattle.policy.specs.Settings.{Settings}
use Rattle.policy.specs.Caller.{Caller}
use Rattle.policy.specs.Class.{class_of}
use Rattle.model.specs.Liveness.{graph_of, keep_of, lives, live_paths, dead_paths, first_root_of, roots_that_keep}
use Rattle.model.specs.Seen.{seen, seen_root}

-- what is said of a path: the test of a live path is right; it is listed as live or as dead where it is, and what is
-- valid is one of the two; a live path has a first root, whose target reaches it and that of no lesser root does, and
-- any other has none
pub record HasExactLiveness (s : Settings) (w : World) (p : Path) : Type 0 where
  pub decided : IsTrue (lives s w p) ↔ IsLive (keep_of s) (graph_of w) (roots_of w) p
  pub live : Contains (live_paths s w) p ↔ IsLive (keep_of s) (graph_of w) (roots_of w) p
  pub dead : Contains (dead_paths s w) p ↔ IsDead (keep_of s) (graph_of w) (roots_of w) p
  pub parts : Contains (all_paths w) p ↔ (Contains (live_paths s w) p ⊎ Contains (dead_paths s w) p)
  pub first : HasFirstRoot (keep_of s) (graph_of w) (roots_of w) p

-- In a sound world the target of each root is valid, and so it lives.
abbrev pub TargetsLive : Type 0
TargetsLive =
    (s : Settings) (w : World) → IsSound s.store_dir w → (r : Root) → Contains (roots_of w) r
    → IsTrue (has w r.target) × IsTrue (lives s w r.target)

-- The first of the roots that a caller is shown for a path is the path's first root.
abbrev pub FirstIsShownFirst : Type 0
FirstIsShownFirst = (s : Settings) (w : World) (c : Caller) (p : Path)
    → slice_get (seen (class_of s c) (roots_that_keep s w p)) 0
    ≡ option_map (seen_root (class_of s c)) (first_root_of s w p)
