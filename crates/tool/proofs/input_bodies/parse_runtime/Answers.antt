use Rattle.std.proofs.Common.{Err, refl, ap}
use Rattle.model.specs.Request.{replace_runtime}
use Rattle.store_types.specs.View.{request_view}
use Rattle.tool.specs.Bodies.{IsReplaced}
use Rattle.std.proofs.lemmas.Result.{err_from_is_err_and}
use Rattle.tool.proofs.Whole.{body_refused}
use Rattle.tool.proofs.Requested.{same_steps}
use Rattle.tool.proofs.input_bodies.parse_runtime.Goals as goal

pub returns-in_err-runtime_body : goal.returns-in_err-runtime_body
returns-in_err-runtime_body c =
    let p = err_from_is_err_and c.from_residual.result c.from_residual.ensures.1 in
    rw (p.1, p.2) (body_refused (IsReplaced c.args.dir.now c.args.body.now) c.in_err-runtime_body.field-0.0 _ refl
    (λ is q said. c.in_err-runtime_body.ensures.bad (ap (λ e. Err e) is) said.0 said.1))

pub returns : goal.returns
returns c =
    let asked = c.in_ok-runtime_body.ensures.ok in
    let wanted = replace_runtime asked.0 in
    (wanted, (asked.0, asked.1, refl), same_steps (request_view c.in_ok-runtime_body.field-0) wanted asked.2)
