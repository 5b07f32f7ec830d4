use Rattle.std.proofs.Common.{◌≡◌, List, map, take}
use Rattle.std.specs.Prelude.{filter}
use Rattle.std.specs.FinMap as finite
use Rattle.paths.specs.RootView.{root_view}
use Rattle.live.specs.Arguments.{roots_view}
use Rattle.live.specs.Graph.{Graph, Keep, Path}
use Rattle.live.specs.Reaching.{reaches_any}
use Rattle.tables_outline.specs.Links.{AreLinksOf}
use Rattle.store_reach.specs.Reached.{IsFound}
use Rattle.store_reach.proofs.reached.roots_found.Given as goal

-- those of the first
abbrev pub invariant-loop-root : goal.invariant-loop-root
invariant-loop-root l =
    (keep : Keep) (g : Graph) (named : List Path) → AreLinksOf (finite.get g) l.links
    → IsFound keep g l.links named l.reaching
    → roots_view l.found.items ≡ filter (λ r. reaches_any keep g named r.target)
    (map root_view (take l.root-index l.roots))
