use Rattle.std.proofs.Common.{◌≡◌, take}
use Rattle.report.specs.Replies.{paths_text}
use Rattle.report.proofs.line_pieces.paths_pieces.Given as goal

abbrev pub invariant-loop-path : goal.invariant-loop-path
invariant-loop-path l = l.text ≡ paths_text l.dir (take l.path-index l.paths)
