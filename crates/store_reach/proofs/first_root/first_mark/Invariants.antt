use Rattle.std.proofs.Common.{◌≡◌, ℕ, None, Option, take}
use Rattle.paths.specs.Root.{Root}
use Rattle.live.specs.Arguments.{rows_view}
use Rattle.model.specs.World.{Path}
use Rattle.store_reach.specs.FirstRoot.{AreMarked, first_value}
use Rattle.store_reach.proofs.first_root.first_mark.Given as goal

-- none of the first has a root
abbrev pub invariant-loop-path : goal.invariant-loop-path
invariant-loop-path l =
    (root : ℕ → Root) (root_of : Path → Option Root) → AreMarked (rows_view l.rows) l.marks root root_of
    → first_value root_of (take l.path-index l.named) ≡ None
