use Rattle.wire_server.proofs.Sofar.{Sofar}
use Rattle.wire_server.proofs.listener.serve_on.Given as goal

abbrev pub invariant-connections : goal.invariant-connections
invariant-connections g l =
    Sofar g.A.Responder.answers (g.L.Listener.waiting l.fn.listener) (g.L.Listener.waiting l.listener)
    (g.L.Listener.closed l.fn.listener) (g.L.Listener.closed l.listener)
    (g.L.Listener.unread l.fn.listener) (g.L.Listener.unread l.listener)
    (g.L.Listener.faults l.fn.listener) (g.L.Listener.faults l.listener)
    (g.E.Write.contents l.fn.errors) (g.E.Write.contents l.errors) l.fn.state l.state l.counter l.failed
