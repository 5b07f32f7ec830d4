use Rattle.std.specs.Prelude.{◌*◌, take}
use Rattle.sha2.specs.Hashers.{Holds256}
use Rattle.intake.specs.Contents.{contents_so_far}
use Rattle.intake.proofs.digests.hash_contents.Given as goal

-- the contents in the pieces before this one are hashed
abbrev pub invariant-parts : goal.invariant-parts
invariant-parts l =
    Holds256 l.fn.hasher (contents_so_far (take (65536 * l.fn.part.from) l.fn.part.pieces.now))
    → Holds256 l.hasher (contents_so_far (take (65536 * l.i) l.fn.part.pieces.now))
