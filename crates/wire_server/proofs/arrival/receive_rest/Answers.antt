use Rattle.std.proofs.Common.{◌++◌, Ok, Err, ap}
use Rattle.std.proofs.lemmas.Result.{err_from_is_err_and}
use Rattle.wire_server.specs.Answers.{body_in}
use Rattle.wire_server.specs.declared.responder.Begun.TheVariants.{Accepted, Refused}
use Rattle.wire_server.proofs.Arrived.{awaits_body, cut_short, whole_arrives}
use Rattle.wire_server.proofs.arrival.receive_rest.Goals as goal

pub returns-then-branch : goal.returns-then-branch
returns-then-branch g c = λ n near.
    let is = c.requires.head in
    let begun = (rw c.in-Accepted.is at c.requires.begun) is.0 is.1 in
    let got = c.in_ok-receive_body-in-Accepted.ensures in
    let whole = got.came.whole (ap Ok c.if-branch.true) in (
      got.came.read,
      got.came.consumed,
      whole_arrives c.args.held.now got.came.read c.args.head c.args.size is g.A.Responder.answers g.A.Responder.decides
          g.A.Body.Keeper.represents c.args.state.now n near
          (Accepted (c.in-Accepted.course, c.receive_body.new.body)) whole.0
          (begun.0, got.kept (ap Ok c.if-branch.true) _ begun.1) whole.1,
    )

pub returns-else-branch : goal.returns-else-branch
returns-else-branch g c = λ n near.
    let got = c.in_ok-receive_body-in-Accepted.ensures.came in
    let short = got.short (ap Ok c.if-branch.false) in (
      got.read,
      got.consumed,
      cut_short c.args.held.now got.read c.args.head c.args.size c.requires.head n _ short.0
          short.1,
    )

pub returns-in_err-receive_body-in-Accepted : goal.returns-in_err-receive_body-in-Accepted
returns-in_err-receive_body-in-Accepted g c = λ n near.
    let p = err_from_is_err_and c.from_residual.result c.from_residual.ensures.1 in
    let got = c.in_err-receive_body-in-Accepted.ensures in
    rw (p.1, p.2) (
      got.came.read,
      got.came.consumed,
      (
        got.fault,
        λ failed.
            awaits_body c.args.held.now got.came.read c.args.head c.args.size c.requires.head
            (got.missing (ap Err failed)),
      ),
    )

pub returns-then-branch-2 : goal.returns-then-branch-2
returns-then-branch-2 g c = λ n near.
    let is = c.requires.head in
    let begun = (rw c.in-Refused.is at c.requires.begun) is.0 is.1 in
    let got = c.in_ok-receive_body-in-Refused.ensures.came in
    let whole = got.whole (ap Ok c.if-branch-2.true) in (
      got.read,
      got.consumed,
      whole_arrives c.args.held.now got.read c.args.head c.args.size is g.A.Responder.answers g.A.Responder.decides
          g.A.Body.Keeper.represents c.args.state.now n near
          (Refused c.in-Refused.response) whole.0
          (begun (body_in (c.args.held.now ++ got.read) c.args.head c.args.size)) whole.1,
    )

pub returns-else-branch-2 : goal.returns-else-branch-2
returns-else-branch-2 g c = λ n near.
    let got = c.in_ok-receive_body-in-Refused.ensures.came in
    let short = got.short (ap Ok c.if-branch-2.false) in (
      got.read,
      got.consumed,
      cut_short c.args.held.now got.read c.args.head c.args.size c.requires.head n _ short.0
          short.1,
    )

pub returns-in_err-receive_body-in-Refused : goal.returns-in_err-receive_body-in-Refused
returns-in_err-receive_body-in-Refused g c = λ n near.
    let p =
    err_from_is_err_and c.from_residual-in_err-receive_body-in-Refused.result
    c.from_residual-in_err-receive_body-in-Refused.ensures.1 in
    let got = c.in_err-receive_body-in-Refused.ensures in
    rw (p.1, p.2) (
      got.came.read,
      got.came.consumed,
      (
        got.fault,
        λ failed.
            awaits_body c.args.held.now got.came.read c.args.head c.args.size c.requires.head
            (got.missing (ap Err failed)),
      ),
    )
