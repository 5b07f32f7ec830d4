use Rattle.std.proofs.Common.{◌-◌}
use Rattle.live.specs.Searched.{IsSearched}
use Rattle.live.proofs.numbered.places.range_by_head.Given as goal

abbrev pub invariant-search : goal.invariant-search
invariant-search l = IsSearched l.rows l.path l.low l.high

abbrev pub decreases-search : goal.decreases-search
decreases-search l = l.high - l.low
