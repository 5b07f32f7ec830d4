use Rattle.std.proofs.Common.{◌≡◌, length}
use Rattle.drv.specs.View.{views}
use Rattle.drv.specs.Reading.{output_at, rest_of_items, with_items}
use Rattle.drv.proofs.derivation.more_outputs.Given as goal

abbrev pub invariant-loop-end : goal.invariant-loop-end
invariant-loop-end l =
    with_items (views l.outputs.items) (rest_of_items (output_at l.dir) (length l.rest) l.rest)
    ≡ with_items (views l.fn.before.items) (rest_of_items (output_at l.dir) (length l.text) l.text)

abbrev pub decreases-loop-end : goal.decreases-loop-end
decreases-loop-end l = length l.rest
