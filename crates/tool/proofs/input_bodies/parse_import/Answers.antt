use Rattle.std.proofs.Common.{Err, refl, ap}
use Rattle.model.specs.Request.{import_object}
use Rattle.store_types.specs.View.{request_view}
use Rattle.wire_requests.specs.Kept.{bytes_of}
use Rattle.wire_requests.specs.View.{imported}
use Rattle.tool.specs.Bodies.{IsImported}
use Rattle.std.proofs.lemmas.Result.{err_from_is_err_and}
use Rattle.tool.proofs.Whole.{body_refused}
use Rattle.tool.proofs.Requested.{same_steps}
use Rattle.tool.proofs.input_bodies.parse_import.Goals as goal

pub returns-in_err-read_import : goal.returns-in_err-read_import
returns-in_err-read_import c =
    let p = err_from_is_err_and c.from_residual.result c.from_residual.ensures.1 in
    rw (p.1, p.2) (body_refused (IsImported c.args.dir.now (bytes_of c.args.body)) c.in_err-read_import.field-0.0 _ refl
    (λ is q said. c.in_err-read_import.ensures.whole.bad (ap (λ e. Err e) is) said.0 said.1 said.2))

pub returns : goal.returns
returns c =
    let asked = c.in_ok-read_import.ensures.whole.ok in
    let wanted = import_object (imported asked.0 asked.1) in
    (wanted, (asked.0, asked.1, asked.2, refl), same_steps (request_view c.in_ok-read_import.field-0) wanted asked.3)
