use Rattle.std.proofs.Common.{◌≤◌, ◌-◌, length}
use Rattle.wire_server.proofs.Reported.{Reported}
use Rattle.wire_server.proofs.connection.serve.Given as goal

abbrev pub invariant-messages : goal.invariant-messages
invariant-messages g l = record {
  so_far : Reported g.A.Responder.answers (g.R.Read.remaining l.fn.input) (g.R.Read.remaining l.input)
      (g.W.Write.contents l.fn.output) (g.W.Write.contents l.output) l.buffer.items l.fn.state l.state l.count;
  small : length l.buffer.items ≤ 4095;
}

abbrev pub decreases-messages : goal.decreases-messages
decreases-messages g l = 340282366920938463463374607431768211455 - l.count
