use Rattle.std.proofs.Common.{◌≡◌, map, take}
use Rattle.live.specs.Graph.{Path, holds}
use Rattle.tables_outline.specs.LinkNames.{name_at}
use Rattle.store_reach.proofs.reached.ordered.Given as goal

-- those of the first numbers
abbrev pub invariant-loop-number : goal.invariant-loop-number
invariant-loop-number l =
    (p : Path) → holds l.paths.keys p ≡ holds (map (name_at l.links.names) (take l.number-index l.numbers)) p
