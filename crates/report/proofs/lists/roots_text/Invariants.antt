use Rattle.std.proofs.Common.{◌≡◌, map, take}
use Rattle.std.specs.Prelude.{string_bytes}
use Rattle.report.specs.Replies.{roots_text}
use Rattle.tables_outline.specs.Maps.{labelled_bytes}
use Rattle.report.proofs.lists.roots_text.Given as goal

abbrev pub invariant-loop-root : goal.invariant-loop-root
invariant-loop-root l = string_bytes l.text ≡ roots_text l.dir (map labelled_bytes (take l.root-index l.roots))
