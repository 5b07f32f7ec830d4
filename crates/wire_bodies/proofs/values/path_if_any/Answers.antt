use Rattle.std.proofs.Common.{None}
use Rattle.wire_bodies.specs.Values.{values, optional}
use Rattle.wire_bodies.specs.Kinds.{path_text}
use Rattle.wire_bodies.proofs.Passed.{answers_nothing}
use Rattle.wire_bodies.proofs.ValueLemmas.{optional_one}
use Rattle.wire_bodies.proofs.values.path_if_any.Goals as goal

pub returns-in_err-path_of-in-One : goal.returns-in_err-path_of-in-One
returns-in_err-path_of-in-One c =
    let read = path_text c.args.dir.now in
    answers_nothing _ (optional read (values c.args.key.now c.args.entries.now)) c.in_err-path_of-in-One.field-0.0
    c.from_residual.result c.from_residual.ensures.1
    (λ bad. optional_one read _ c.in-One.text None c.in-One.ensures (rw bad at c.in_err-path_of-in-One.ensures))
