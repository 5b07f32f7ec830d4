use Rattle.std.proofs.Common.{take}
use Rattle.tables_outline.specs.Links.{AreLinked, IsReady}
use Rattle.tables_outline.proofs.source_links.link_all.Given as goal

abbrev pub invariant-loop-target : goal.invariant-loop-target
invariant-loop-target l =
    IsReady l.fn.names l.fn.lists l.source
    → AreLinked l.fn.names l.names l.fn.lists l.lists l.source (take l.target-index l.targets)
