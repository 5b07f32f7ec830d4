use Rattle.std.proofs.Common.{take}
use Rattle.std.specs.Prelude.{map}
use Rattle.wire_requests.specs.Rows.{AreRows, row_of, text_of}
use Rattle.wire_requests.proofs.router.router_of.Given as goal

abbrev pub invariant-loop-row : goal.invariant-loop-row
invariant-loop-row l = AreRows l.router (map row_of (map text_of (take l.row-index l.rows)))
