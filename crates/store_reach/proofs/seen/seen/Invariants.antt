use Rattle.std.proofs.Common.{◌≡◌, map, take}
use Rattle.live.specs.Arguments.{roots_view}
use Rattle.tables_outline.specs.Maps.{labelled_bytes}
use Rattle.model.specs.Seen as spec
use Rattle.store_reach.specs.Unique.{AreListed}
use Rattle.store_reach.proofs.seen.seen.Given as goal

-- the roots so far are shown, and reported
abbrev pub invariant-loop-root : goal.invariant-loop-root
invariant-loop-root l =
    (map labelled_bytes l.shown.items ≡ spec.seen l.class (roots_view (take l.root-index l.roots)))
    × AreListed l.class l.reported.keys l.shown.items
