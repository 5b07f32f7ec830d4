use Rattle.std.proofs.Common.{◌≡◌, ◌≤◌, ◌++◌, length}
use Rattle.streams.proofs.bytes.Pieces.push.Given as goal

abbrev pub invariant-pieces : goal.invariant-pieces
invariant-pieces l =
    record { same : l.self ++ l.rest ≡ l.fn.self ++ l.fn.bytes; fewer : length l.rest ≤ length l.fn.bytes }

abbrev pub decreases-pieces : goal.decreases-pieces
decreases-pieces l = length l.rest
