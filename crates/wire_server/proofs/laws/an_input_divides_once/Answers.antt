use Rattle.wire_server.proofs.Once.{divides_once}
use Rattle.wire_server.proofs.laws.an_input_divides_once.Goals as goal

pub returns : goal.returns
returns c = divides_once
