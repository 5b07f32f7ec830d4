use Rattle.std.proofs.Common.{arith, rules}
use Rattle.tables_recognize.proofs.rowids.rise.Goals as goal

pub returns : goal.returns
returns c = (λ yes k d low. c.loop-at.invariant k d (omega arith), λ rise. search rules)
