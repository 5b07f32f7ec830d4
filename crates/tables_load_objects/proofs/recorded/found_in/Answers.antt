use Rattle.std.proofs.Common.{rules}
use Rattle.tables_load_objects.proofs.recorded.found_in.Goals as goal

pub returns-then-is_derivation : goal.returns-then-is_derivation
returns-then-is_derivation c = λ t is.
    let reported = c.derivation_outputs.ensures t is in
    let drv = c.if-is_derivation.true in
    search rules
