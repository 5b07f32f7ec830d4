use Rattle.std.proofs.Common.{ℕ, List, length}
use Rattle.nar.specs.Tree.{IsBytes}
use Rattle.nar.specs.Feeding.{Fed, EndsIn}
use Rattle.nar.specs.NestView.{symbols_of}
use Rattle.nar.proofs.progress.strings_of.Given as goal

abbrev pub invariant-strings : goal.invariant-strings
invariant-strings l = record {
  fed : (all : List ℕ) → Fed (symbols_of l.fn.nest) l.fn.room l.fn.bytes all
      → Fed (symbols_of l.nest) l.at.room l.at.rest.now all;
  bytes : IsBytes l.at.rest.now;
  suffix : EndsIn l.fn.bytes l.at.rest.now;
}

abbrev pub decreases-strings : goal.decreases-strings
decreases-strings l = length l.at.rest.now
