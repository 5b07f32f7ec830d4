-- What was passed on is what was taken from the input, and with what is left it makes the bound.
use Rattle.std.proofs.Common.{◌≡◌, ◌+◌, ◌++◌, ℕ, List, length}
use Rattle.std.specs.Io.KnownBytes.{Consumes}
use Rattle.streams.proofs.receive.receive_at_most.Given as goal

abbrev pub invariant-reads : goal.invariant-reads
invariant-reads g l =
    (bs : List ℕ) × Consumes (g.R.Read.remaining l.initial.input) (g.R.Read.remaining l.input) bs
    × (length bs + l.left ≡ l.most) × (g.S.Sink.received l.sink ≡ g.S.Sink.received l.initial.sink ++ bs)

abbrev pub decreases-reads : goal.decreases-reads
decreases-reads g l = l.left
