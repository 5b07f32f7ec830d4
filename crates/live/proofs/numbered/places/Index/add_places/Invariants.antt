use Rattle.std.proofs.Common.{◌≡◌, ◌++◌, take}
use Rattle.live.specs.Numbering.{paths_of, places_of}
use Rattle.live.proofs.numbered.places.Index.add_places.Given as goal

abbrev pub invariant-loop-path : goal.invariant-loop-path
invariant-loop-path l = l.targets.items ≡ l.fn.targets.items ++ places_of (paths_of l.self) (take l.path-index l.paths)
