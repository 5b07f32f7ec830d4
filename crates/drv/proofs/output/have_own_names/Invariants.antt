use Rattle.std.proofs.Common.{◌≡◌, take, map}
use Rattle.std.specs.Prelude.{string_bytes}
use Rattle.drv.proofs.output.have_own_names.Given as goal

abbrev pub invariant-loop-output : goal.invariant-loop-output
invariant-loop-output l =
    map (λ s. s.now) l.names.items ≡ map (λ o. string_bytes o.name) (take l.output-index l.outputs)
