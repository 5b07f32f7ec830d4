use Rattle.std.specs.Prelude.{⊤}
use Rattle.std.proofs.Common.{ap}
use Rattle.std.proofs.lemmas.Result.{err_from_is_err_and}
use Rattle.tool.specs.Bodies.{Imports}
use Rattle.wire_requests.specs.Kept.{bytes_of}
use Rattle.tool.proofs.Whole.{after_nothing, gone, whole_asked}
use Rattle.tool.proofs.input_bodies.import.Goals as goal

pub returns : goal.returns
returns g c =
    let known = g.R.Read.remaining c.args.input.now in
    let body = bytes_of c.receive_input.new.sink in
    whole_asked ⊤ (Imports c.args.dir.now) known body c.parse_import.result
    (after_nothing known (bytes_of c.new-body.result) body (ap bytes_of c.new-body.ensures)
    c.in_ok-receive_input.ensures.ok) c.parse_import.ensures

pub returns-in_err-receive_input : goal.returns-in_err-receive_input
returns-in_err-receive_input g c =
    let p = err_from_is_err_and c.from_residual.result c.from_residual.ensures.1 in
    rw (p.1, p.2) (gone ⊤ (Imports c.args.dir.now) (g.R.Read.remaining c.args.input.now) _
    c.in_err-receive_input.ensures.read.err (λ _. tt))
