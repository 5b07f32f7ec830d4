use Rattle.tool_pure.proofs.Received.{all_received}
use Rattle.tool_pure.proofs.input.receive_input.Goals as goal

pub returns-then-count-lt-UNBOUNDED-clause-ok : goal.returns-then-count-lt-UNBOUNDED-clause-ok
returns-then-count-lt-UNBOUNDED-clause-ok g c =
    let read = c.in_ok-count.ensures in
    all_received (g.R.Read.remaining c.args.input.now) (g.R.Read.remaining c.receive_at_most.new.input) read.0
    (g.S.Sink.received c.args.sink.now) (g.S.Sink.received c.receive_at_most.new.sink)
    read.1 (read.3.2 c.if-count-lt-UNBOUNDED.true) read.3.1
