use Rattle.std.proofs.Common.{arith}
use Rattle.tool.proofs.Whole.{whole_is}
use Rattle.tool.proofs.input_bodies.read_whole.Goals as goal

pub returns-clause-ok : goal.returns-clause-ok
returns-clause-ok g c =
    let bytes = c.in_ok-bytes.bytes in
    whole_is (g.R.Read.remaining c.args.input.now) bytes.items (omega (arith, bytes.ok.0, bytes.ok.1, bytes.small))
    c.in_ok-bytes.ensures.ok
