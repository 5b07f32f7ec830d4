use Rattle.std.proofs.Common.{◌≡◌, take}
use Rattle.std.specs.Prelude.{string_bytes}
use Rattle.report.specs.Replies.{paths_text}
use Rattle.report.proofs.lists.paths_text.Given as goal

abbrev pub invariant-loop-path : goal.invariant-loop-path
invariant-loop-path l = string_bytes l.text ≡ paths_text l.dir (take l.path-index l.paths)
