use Rattle.std.proofs.Common.{◌≡◌, map, take}
use Rattle.report.specs.Replies.{roots_text}
use Rattle.tables_outline.specs.Maps.{labelled_bytes}
use Rattle.report.proofs.line_pieces.roots_pieces.Given as goal

abbrev pub invariant-loop-root : goal.invariant-loop-root
invariant-loop-root l = l.text ≡ roots_text l.dir (map labelled_bytes (take l.root-index l.roots))
