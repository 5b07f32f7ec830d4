use Rattle.std.proofs.Common.{◌++◌, ◌∙◌, length, ap, subst, append_assoc}
use Rattle.std.proofs.KnownBytes.{Consumes-trans}
use Rattle.std.proofs.lemmas.Result.{err_from_is_err_and}
use Rattle.wire_server.specs.Arrivals.{Brings}
use Rattle.wire_server.proofs.arrival.receive_next.Goals as goal

pub returns-in-Message : goal.returns-in-Message
returns-in-Message g c =
    let head = rw c.in-Message.is at c.in_ok-head.ensures in
    let near = head.1.1 in
    let next = (rw c.deref.ensures.value at c.receive_message.ensures) (length c.args.buffer.now.items) near in
    let all = ap (λ t. t ++ next.0) head.0.2 ∙ append_assoc c.args.buffer.now.items head.0.0 next.0 in (
      head.0.0 ++ next.0,
      Consumes-trans _ _ _ head.0.0 next.0 head.0.1 next.1,
      subst (λ t. Brings g.A.Responder.answers g.A.Responder.decides g.A.Body.Keeper.represents c.args.state.now
          (length c.args.buffer.now.items) t c.receive_head.new.buffer.items
          (g.R.Read.remaining c.receive_message.new.input)
          c.receive_message.result)
          all next.2,
    )

pub returns-in_err-head : goal.returns-in_err-head
returns-in_err-head g c =
    let p = err_from_is_err_and c.from_residual.result c.from_residual.ensures.1 in
    let got = c.in_err-head.ensures in
    rw (p.1, p.2) (got.0.0, got.0.1, (got.2, got.0.3))
