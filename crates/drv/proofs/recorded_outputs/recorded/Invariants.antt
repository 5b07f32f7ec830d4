use Rattle.std.proofs.Common.{◌≡◌, ◌++◌}
use Rattle.drv.specs.Derivation.{recorded}
use Rattle.drv.specs.View.{views, pairs}
use Rattle.drv.proofs.recorded_outputs.recorded.Given as goal

abbrev pub invariant-loop-name : goal.invariant-loop-name
invariant-loop-name l =
    pairs l.found.items ++ recorded (views l.name-iterator.rest.items) ≡ recorded (views l.fn.outputs.items)
