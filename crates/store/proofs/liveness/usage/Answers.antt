use Rattle.std.proofs.Common.{length}
use Rattle.store.proofs.liveness.usage.Goals as goal

pub returns : goal.returns
returns c w is = λ i. record { paths = length c.args.paths.now; bytes = c.bytes_in.ensures w is i }
