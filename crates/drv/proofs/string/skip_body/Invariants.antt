use Rattle.std.proofs.Common.{◌≡◌, false, drop}
use Rattle.drv.specs.Reading.{body_at, rest_of}
use Rattle.drv.proofs.string.skip_body.Given as goal

abbrev pub invariant-loop-i : goal.invariant-loop-i
invariant-loop-i l = rest_of (body_at l.escaped (drop l.i l.body)) ≡ rest_of (body_at false l.body)
