use Rattle.std.proofs.Common.{Err, ap}
use Rattle.std.proofs.lemmas.Result.{err_from_is_err_and}
use Rattle.report.specs.Outputs.{change_of}
use Rattle.tool_pure.proofs.Results.{deleted_at, unread}
use Rattle.tool_pure.proofs.object.read_object.Goals as goal

pub returns-in_err-object-clause-reads : goal.returns-in_err-object-clause-reads
returns-in_err-object-clause-reads g c = unread _ _ _

pub returns-in_err-bytes-clause-err : goal.returns-in_err-bytes-clause-err
returns-in_err-bytes-clause-err g c =
    let p = err_from_is_err_and c.from_residual-in_err-bytes.result c.from_residual-in_err-bytes.ensures.1 in
    rw (p.1, p.2) (deleted_at _ c.args.most (change_of g.R.Read.remaining c.args.input.now c.read_input.new.input) _
    c.in_ok-object.ensures.ok.0
    c.in_err-bytes.ensures.read.err (λ is. c.in_err-bytes.ensures.read.input (ap (λ e. Err e) is)))
