-- What was read was kept, and with what is left makes the number.
use Rattle.std.proofs.Common.{◌≡◌, ◌+◌, ℕ, List, length}
use Rattle.std.specs.Io.KnownBytes.{Consumes}
use Rattle.wire_server.specs.Bodies.{Grows}
use Rattle.wire_server.proofs.keeper.keep_out.Given as goal

abbrev pub invariant-reads : goal.invariant-reads
invariant-reads g l =
    (bs : List ℕ) × Consumes (g.R.Read.remaining l.initial.input) (g.R.Read.remaining l.input) bs
    × (length bs + l.left ≡ l.size) × Grows (g.K.Keeper.represents l.initial.body) (g.K.Keeper.represents l.body) bs

abbrev pub decreases-reads : goal.decreases-reads
decreases-reads g l = l.left
