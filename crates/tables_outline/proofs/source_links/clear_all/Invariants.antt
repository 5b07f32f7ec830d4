use Rattle.std.proofs.Common.{take}
use Rattle.tables_outline.specs.Links.{AreCleared}
use Rattle.tables_outline.proofs.source_links.clear_all.Given as goal

abbrev pub invariant-loop-path : goal.invariant-loop-path
invariant-loop-path l = AreCleared l.names l.fn.held l.held (take l.path-index l.paths)
