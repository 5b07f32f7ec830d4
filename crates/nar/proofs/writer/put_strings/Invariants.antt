use Rattle.std.proofs.Common.{◌≡◌, ◌++◌, take}
use Rattle.nar.specs.Writer.{joined}
use Rattle.nar.proofs.writer.put_strings.Given as goal

abbrev pub invariant-loop-text : goal.invariant-loop-text
invariant-loop-text l = l.out.items ≡ l.fn.out.items ++ joined (take l.text-index l.texts)
