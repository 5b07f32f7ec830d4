use Rattle.wire_server.proofs.port.read_out.Given as goal

abbrev pub decreases-reads : goal.decreases-reads
decreases-reads g l = l.left
