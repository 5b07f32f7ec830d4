use Rattle.std.proofs.Common.{◌≡◌, length}
use Rattle.drv.specs.Reading.{input_end}
use Rattle.drv.proofs.Loops.{left}
use Rattle.drv.proofs.skipped_parts.skip_more_inputs.Given as goal

abbrev pub invariant-loop-end : goal.invariant-loop-end
invariant-loop-end l = left input_end l.rest ≡ left input_end l.text

abbrev pub decreases-loop-end : goal.decreases-loop-end
decreases-loop-end l = length l.rest
