use Rattle.std.specs.Prelude.{◌*◌, take}
use Rattle.sha2.specs.Hashers.{Holds256}
use Rattle.intake.proofs.digests.hash_pieces.Given as goal

-- the pieces before this one are hashed
abbrev pub invariant-pieces : goal.invariant-pieces
invariant-pieces l =
    Holds256 l.fn.hasher (take (65536 * l.fn.part.from) l.fn.part.pieces.now)
    → Holds256 l.hasher (take (65536 * l.i) l.fn.part.pieces.now)
