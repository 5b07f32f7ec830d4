use Rattle.std.proofs.Common.{◌*◌, take}
use Rattle.std.specs.Io.KnownBytes.{Appends}
use Rattle.streams.proofs.parts.send_pieces.Given as goal

-- the pieces so far were written
abbrev pub invariant-pieces : goal.invariant-pieces
invariant-pieces g l =
    Appends (g.W.Write.contents l.fn.output) (g.W.Write.contents l.output) (take (65536 * l.i) l.bytes)
