use Rattle.std.proofs.Common.{◌*◌, take, subst}
use Rattle.sha2.specs.Hashers.{Holds256}
use Rattle.intake.proofs.Hashing.{one_more}
use Rattle.intake.proofs.digests.hash_pieces.Goals as goal

pub pieces-preserved : goal.pieces-preserved
pieces-preserved c = λ was.
    let bytes = c.args.part.pieces.now in
    let before = take (65536 * c.pieces.i) bytes in
    subst (Holds256 c.update.new.self) (one_more bytes c.pieces.i c.piece.result.now c.piece.ensures)
    (c.update.ensures before (c.pieces.invariant was))
