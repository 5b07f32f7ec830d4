use Rattle.std.proofs.Common.{rules, ◌∙◌, ◌+◌, ◌<◌, length}
use Rattle.std.proofs.lemmas.Result.{err_from_is_err_and}
use Rattle.wire_server.specs.Answers.{body_in}
use Rattle.wire_server.proofs.Reported.{closes_in}
use Rattle.wire_server.proofs.Arrived.{answered_whole, lost_whole, drop_saturated}
use Rattle.wire_server.proofs.exchange.answer_message.Goals as goal

pub respond-requires : goal.respond-requires
respond-requires g c =
    let is = c.requires.2 in
    (is.h, body_in c.requires.1 c.args.head.now c.args.size, rw c.deref-2.ensures.value is.holds, is.answerable)

pub returns-in_err-response : goal.returns-in_err-response
returns-in_err-response g c = λ n all is.
    let answer = rw c.deref-2.ensures.value at c.in_err-response.ensures in
    let p = err_from_is_err_and c.from_residual.result c.from_residual.ensures.1 in
    rw p.1 (lost_whole g.A.Responder.answers g.A.Responder.decides g.A.Body.Keeper.represents c.args.state.now n all
    c.args.buffer.now.items c.args.head.now c.args.size c.args.ready is c.respond.new.state
    c.in_err-response.field-0.0
    (answer is.h (body_in all c.args.head.now c.args.size) is.holds is.answerable))

pub returns : goal.returns
returns g c = λ n all is.
    let fits : length c.args.buffer.now.items < 18446744073709551616 = search rules in
    let answer = rw c.deref-2.ensures.value at c.in_ok-response.ensures in
    let closes = c.closes-close.ensures
    ∙ closes_in _ c.args.buffer.now.items _ c.args.head.now is.h is.holds (c.new.ensures.buf ∙ c.deref.ensures.value)
    c.new.ensures.head in
    answered_whole g.A.Responder.answers g.A.Responder.decides g.A.Body.Keeper.represents c.args.state.now n all
    c.args.buffer.now.items c.args.head.now c.args.size c.args.ready is c.respond.new.state
    c.drain_prefix.new.buffer.items (record { response = c.in_ok-response.response; close = c.closes-close.result })
    (answer is.h (body_in all c.args.head.now c.args.size) is.holds is.answerable) closes
    (c.drain_prefix.ensures ∙ drop_saturated (c.args.head.now.spans.len + c.args.size) c.saturating_add.result
    c.args.buffer.now.items c.saturating_add.ensures fits)
