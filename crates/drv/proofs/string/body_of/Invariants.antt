use Rattle.std.proofs.Common.{◌≡◌, false, drop}
use Rattle.drv.specs.Reading.{body_at}
use Rattle.drv.proofs.Bodies.{with_bytes}
use Rattle.drv.proofs.string.body_of.Given as goal

abbrev pub invariant-loop-i : goal.invariant-loop-i
invariant-loop-i l = with_bytes l.bytes.items (body_at l.escaped (drop l.i l.body)) ≡ body_at false l.body
