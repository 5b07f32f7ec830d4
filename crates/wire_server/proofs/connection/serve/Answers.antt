use Rattle.std.proofs.Common.{rules, ◌≡◌, length, sym, ap, arith, subst}
use Rattle.std.proofs.lemmas.Result.{err_from_is_err_and}
use Rattle.wire_server.specs.Serves.{Serves}
use Rattle.wire_server.proofs.Reported.{Reported}
use Rattle.wire_server.proofs.Ends.{reported_start, counted_out}
use Rattle.wire_server.proofs.Turns.{turn_end, turn_broken, turn_lost, turn_cut, turn_closed, turn_on, turn_near}
use Rattle.wire_server.proofs.connection.serve.Goals as goal

pub messages-init : goal.messages-init
messages-init g c =
    record {
      so_far =
          subst (λ held. Reported g.A.Responder.answers (g.R.Read.remaining c.args.input.now)
          (g.R.Read.remaining c.args.input.now) (g.W.Write.contents c.args.output.now)
          (g.W.Write.contents c.args.output.now) held c.args.state.now c.args.state.now 0)
          (sym c.new-buffer.ensures.items)
          (reported_start g.A.Responder.answers (g.R.Read.remaining c.args.input.now)
          (g.W.Write.contents c.args.output.now) c.args.state.now);
      small = omega (arith, ap length c.new-buffer.ensures.items);
    }

pub returns-in_err-next : goal.returns-in_err-next
returns-in_err-next g c =
    let p = err_from_is_err_and c.from_residual.result c.from_residual.ensures.1 in
    rw (p.1, p.2) (turn_broken g.A.Responder.answers (g.R.Read.remaining c.args.input.now)
    (g.W.Write.contents c.args.output.now) c.args.state.now (g.R.Read.remaining c.messages.input)
    (g.R.Read.remaining c.receive_next.new.input) (g.W.Write.contents c.messages.output) c.messages.buffer.items
    c.receive_next.new.buffer.items c.messages.state c.messages.state c.messages.count
    c.messages.invariant.so_far c.messages.invariant.small
    g.A.Responder.decides g.A.Body.Keeper.represents c.in_err-next.field-0.0 c.in_err-next.ensures)

pub answer_next-requires : goal.answer_next-requires
answer_next-requires g c = (_, _, _, c.in_ok-next.ensures.2)

pub returns-in_default : goal.returns-in_default
returns-in_default g c =
    let arrives = c.in_ok-next.ensures in
    let comes = rw c.in_default.is at (c.in_ok-exchange.ensures _ _ _ arrives.2) in
    subst (λ k. Serves g.A.Responder.answers (g.R.Read.remaining c.args.input.now)
    (g.R.Read.remaining c.receive_next.new.input) (g.W.Write.contents c.args.output.now)
    (g.W.Write.contents c.messages.output) c.args.state.now
    c.answer_next.new.state k)
    (sym c.reported.ensures) (turn_end g.A.Responder.answers (g.R.Read.remaining c.args.input.now)
    (g.W.Write.contents c.args.output.now) c.args.state.now (g.R.Read.remaining c.messages.input)
    (g.R.Read.remaining c.receive_next.new.input) (g.W.Write.contents c.messages.output) c.messages.buffer.items
    c.answer_next.new.buffer.items c.messages.state c.answer_next.new.state c.messages.count
    c.messages.invariant.so_far c.messages.invariant.small
    (arrives.0, arrives.1, comes))

pub returns-in_err-exchange : goal.returns-in_err-exchange
returns-in_err-exchange g c =
    let arrives = c.in_ok-next.ensures in
    let p = err_from_is_err_and c.from_residual-in_err-exchange.result c.from_residual-in_err-exchange.ensures.1 in
    rw (p.1, p.2) (turn_lost g.A.Responder.answers (g.R.Read.remaining c.args.input.now)
    (g.W.Write.contents c.args.output.now) c.args.state.now (g.R.Read.remaining c.messages.input)
    (g.R.Read.remaining c.receive_next.new.input) (g.W.Write.contents c.messages.output) c.messages.buffer.items
    c.answer_next.new.buffer.items c.messages.state c.answer_next.new.state c.messages.count
    c.messages.invariant.so_far c.messages.invariant.small
    c.in_err-exchange.field-0.0 (arrives.0, arrives.1, c.in_err-exchange.ensures _ _ _ arrives.2))

pub returns-in_err-send_reply : goal.returns-in_err-send_reply
returns-in_err-send_reply g c =
    let arrives = c.in_ok-next.ensures in
    let comes = rw c.in-Some.is at (c.in_ok-exchange.ensures _ _ _ arrives.2) in
    let p = err_from_is_err_and c.from_residual-in_err-send_reply.result c.from_residual-in_err-send_reply.ensures.1 in
    rw (p.1, p.2) (turn_cut g.A.Responder.answers (g.R.Read.remaining c.args.input.now)
    (g.W.Write.contents c.args.output.now) c.args.state.now (g.R.Read.remaining c.messages.input)
    (g.R.Read.remaining c.receive_next.new.input) (g.W.Write.contents c.messages.output) c.messages.buffer.items
    c.answer_next.new.buffer.items c.messages.state c.answer_next.new.state c.messages.count
    c.messages.invariant.so_far c.messages.invariant.small
    c.in-Some.exchange (g.W.Write.contents c.send_reply.new.output) (arrives.0, arrives.1, comes)
    c.in_err-send_reply.field-0.0 c.in_err-send_reply.ensures)

pub returns-then-exchange : goal.returns-then-exchange
returns-then-exchange g c =
    let arrives = c.in_ok-next.ensures in
    let comes = rw c.in-Some.is at (c.in_ok-exchange.ensures _ _ _ arrives.2) in
    subst (λ k. Serves g.A.Responder.answers (g.R.Read.remaining c.args.input.now)
    (g.R.Read.remaining c.receive_next.new.input) (g.W.Write.contents c.args.output.now)
    (g.W.Write.contents c.send_reply.new.output) c.args.state.now
    c.answer_next.new.state k)
    (sym c.reported-then-exchange.ensures)
    (turn_closed g.A.Responder.answers (g.R.Read.remaining c.args.input.now) (g.W.Write.contents c.args.output.now)
    c.args.state.now (g.R.Read.remaining c.messages.input) (g.R.Read.remaining c.receive_next.new.input)
    (g.W.Write.contents c.messages.output) c.messages.buffer.items c.answer_next.new.buffer.items c.messages.state
    c.answer_next.new.state c.messages.count c.messages.invariant.so_far c.messages.invariant.small c.in-Some.exchange
    (g.W.Write.contents c.send_reply.new.output) c.in_ok-send_reply.ensures (arrives.0, arrives.1, comes)
    c.if-exchange.true)

pub messages-preserved : goal.messages-preserved
messages-preserved g c =
    let arrives = c.in_ok-next.ensures in
    let comes = rw c.in-Some.is at (c.in_ok-exchange.ensures _ _ _ arrives.2) in
    record {
      so_far =
          turn_on g.A.Responder.answers (g.R.Read.remaining c.args.input.now) (g.W.Write.contents c.args.output.now)
          c.args.state.now (g.R.Read.remaining c.messages.input) (g.R.Read.remaining c.receive_next.new.input)
          (g.W.Write.contents c.messages.output) c.messages.buffer.items c.answer_next.new.buffer.items c.messages.state
          c.answer_next.new.state c.messages.count c.messages.invariant.so_far c.messages.invariant.small
          c.in-Some.exchange (g.W.Write.contents c.send_reply.new.output) c.in_ok-send_reply.ensures
          (arrives.0, arrives.1, comes) c.if-exchange.false;
      small =
          turn_near g.A.Responder.answers (g.R.Read.remaining c.args.input.now) (g.W.Write.contents c.args.output.now)
          c.args.state.now (g.R.Read.remaining c.messages.input) (g.R.Read.remaining c.receive_next.new.input)
          (g.W.Write.contents c.messages.output) c.messages.buffer.items c.answer_next.new.buffer.items c.messages.state
          c.answer_next.new.state c.messages.count c.messages.invariant.so_far c.messages.invariant.small
          c.in-Some.exchange (g.W.Write.contents c.send_reply.new.output) c.in_ok-send_reply.ensures
          (arrives.0, arrives.1, comes) c.if-exchange.false;
    }

pub returns : goal.returns
returns g c =
    let all : c.messages.count ≡ 340282366920938463463374607431768211455 = search rules in
    counted_out g.A.Responder.answers (g.R.Read.remaining c.args.input.now) (g.W.Write.contents c.args.output.now)
    c.args.state.now (g.R.Read.remaining c.messages.input) (g.W.Write.contents c.messages.output)
    c.messages.buffer.items c.messages.state c.messages.count c.messages.invariant.so_far all c.messages.invariant.small
