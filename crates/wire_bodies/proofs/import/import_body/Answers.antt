use Rattle.std.proofs.Common.{subst}
use Rattle.wire_bodies.specs.Lines.{spelled}
use Rattle.wire_bodies.specs.Bodies.{IsImport}
use Rattle.wire_bodies.specs.declared.error.BodyError.TheVariants.{BadBodyHead}
use Rattle.wire_bodies.proofs.Passed.{same_fault}
use Rattle.wire_bodies.proofs.Reading.{reads_once}
use Rattle.wire_bodies.proofs.import.import_body.Goals as goal

pub returns-in_err-head-clause-bad : goal.returns-in_err-head-clause-bad
returns-in_err-head-clause-bad c = λ same head nar is.
    let reported =
    same_fault c.import_head.result c.from_residual.result c.in_err-head.field-0.0 BadBodyHead
    c.from_residual.ensures.1 c.in_err-head.was same in
    let entries =
    (reads_once (spelled c.args.body.now) is.0 c.in-Some.parts.entries nar c.in-Some.parts.payload.now is.1
    c.in-Some.ensures).0 in
    c.import_head.ensures.bad reported head (subst (λ es. IsImport c.args.dir.now es head) entries is.2)
