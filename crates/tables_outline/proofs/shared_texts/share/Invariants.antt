use Rattle.std.proofs.Common.{◌≡◌}
use Rattle.tables_outline.proofs.shared_texts.share.Given as goal

abbrev pub invariant-loop-path : goal.invariant-loop-path
invariant-loop-path l = l.paths ≡ l.fn.paths
