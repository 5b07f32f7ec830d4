use Rattle.std.proofs.Common.{◌∙◌}
use Rattle.intake.specs.Arrival.{bytes_in}
use Rattle.std.proofs.Common.{◌++◌, ap}
use Rattle.tool_pure.proofs.Received.{prefix_received}
use Rattle.tool_pure.proofs.input.receive_archive.Goals as goal

pub returns-clause-ok : goal.returns-clause-ok
returns-clause-ok g c =
    let read = c.in_ok-receive_at_most.ensures in
    prefix_received 16777224 (g.R.Read.remaining c.args.input.now) (g.R.Read.remaining c.receive_at_most.new.input)
    read.0 (bytes_in c.receive_at_most.new.sink) c.in_ok-receive_at_most.field-0
    read.1 read.2 read.3.0 (read.3.1 ∙ ap (λ i. bytes_in i ++ read.0) c.new-nar.ensures) read.3.2
