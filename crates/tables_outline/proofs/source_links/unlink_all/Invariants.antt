use Rattle.std.proofs.Common.{take}
use Rattle.tables_outline.specs.Links.{AreUnlinked}
use Rattle.tables_outline.proofs.source_links.unlink_all.Given as goal

abbrev pub invariant-loop-target : goal.invariant-loop-target
invariant-loop-target l = AreUnlinked l.names l.fn.lists l.lists l.source (take l.target-index l.targets)
