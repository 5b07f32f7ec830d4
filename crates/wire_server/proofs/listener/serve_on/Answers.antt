use Rattle.std.proofs.Common.{◌<◌, [], ◌∷◌, ◌++◌, length, length-append, subst, sym, arith}
use Rattle.std.proofs.lemmas.Result.{err_from_is_err_and}
use Rattle.wire_server.proofs.Peers.{takes_more, leaves_more, counts_more}
use Rattle.wire_server.proofs.Sofar.{failure_le, failures_le, sofar_start, sofar_still, sofar_more}
use Rattle.wire_server.proofs.listener.serve_on.Goals as goal

-- src/connections.rt:29:5
pub connections-init : goal.connections-init
connections-init g c = sofar_start g.A.Responder.answers _ _ _ _ _ _

-- src/connections.rt:33:9
pub overflow_add-failed : goal.overflow_add-failed
overflow_add-failed g c =
    omega (
      arith,
      c.ranges.connections,
      c.connections-test.true,
      c.failures-failed.ensures,
      failure_le c.serve_connection-end.result,
      c.connections.invariant.counted,
      c.connections.invariant.failing,
      failures_le c.connections.invariant.sessions,
    )

-- src/connections.rt:30:39
pub returns-in_err-input : goal.returns-in_err-input
returns-in_err-input g c =
    let sofar = c.connections.invariant in
    let still =
    sofar_still g.A.Responder.answers _ _ _ _ _ _ _ _ _ _ _ _ _ _ sofar _ _ _ c.in_err-input.ensures.none
    c.in_err-input.ensures.left c.in_err-input.ensures.rest in
    let fewer : length (sofar.sessions ++ []) < c.args.connections =
    omega (arith, length-append sofar.sessions [], sofar.counted, c.connections-test.true) in
    let p = err_from_is_err_and c.from_residual.result c.from_residual.ensures.1 in
    let fails = subst (g.L.Listener.fails c.accept.new.self) (sym p.2) c.in_err-input.ensures.error in
    let faults = counts_more _ _ _ 0 1 sofar.accepting c.in_err-input.ensures.failed in
    rw p.1 (sofar.sessions ++ [], still, fewer, fails, faults)

-- src/connections.rt:29:5
pub connections-preserved : goal.connections-preserved
connections-preserved g c =
    let accepted =
    takes_more _ _ _ (g.L.Input.Read.remaining c.in_ok-input.input ∷ []) [] c.in_ok-input.ensures.accepted
    c.close.ensures.accepted in
    let left =
    leaves_more _ _ _ [] (g.L.Output.Write.contents c.serve_connection-end.new.output ∷ [])
    c.in_ok-input.ensures.left c.close.ensures.left in
    let rest =
    leaves_more _ _ _ [] (g.L.Input.Read.remaining c.serve_connection-end.new.input ∷ [])
    c.in_ok-input.ensures.rest c.close.ensures.rest in
    let faults = counts_more _ _ _ 0 0 c.in_ok-input.ensures.succeeded c.close.ensures.succeeded in
    let more =
    sofar_more g.A.Responder.answers _ _ _ _ _ _ _ _ _ _ _ _ _ _ c.connections.invariant _ _ _ _ _ _ _ _ _ _
    c.serve_connection-end.result accepted left rest c.in_ok-input.ensures.fresh
    c.serve_connection-end.ensures.served c.serve_connection-end.ensures.said faults in
    rw c.failures-failed.ensures more
