use Rattle.std.proofs.Common.{subst}
use Rattle.std.specs.Prelude.{⊤}
use Rattle.std.proofs.lemmas.Result.{err_from_is_err_and}
use Rattle.tool.specs.Bodies.{Replaces}
use Rattle.tool.specs.Requests.{IsAsked}
use Rattle.tool.proofs.Whole.{gone, whole_asked}
use Rattle.tool.proofs.input_bodies.replace_runtime.Goals as goal

pub returns : goal.returns
returns g c =
    let dir = c.args.dir.now in
    whole_asked ⊤ (Replaces dir) (g.R.Read.remaining c.args.input.now) c.in_ok-body.body.items c.parse_runtime.result
    c.in_ok-body.ensures.ok
    (subst (λ b. IsAsked ⊥ (Replaces dir b) c.parse_runtime.result) c.as_slice.ensures.value c.parse_runtime.ensures)

pub returns-in_err-body : goal.returns-in_err-body
returns-in_err-body g c =
    let p = err_from_is_err_and c.from_residual.result c.from_residual.ensures.1 in
    rw (p.1, p.2) (gone ⊤ (Replaces c.args.dir.now) (g.R.Read.remaining c.args.input.now) _ c.in_err-body.ensures.err
    (λ _. tt))
