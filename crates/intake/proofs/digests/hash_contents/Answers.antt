use Rattle.std.proofs.Common.{◌*◌, ◌<◌, length, take, subst, sym, ap, ◌∙◌, arith}
use Rattle.std.proofs.lemmas.List.{length-take-le}
use Rattle.sha2.specs.Hashers.{Holds256}
use Rattle.intake.specs.Contents.{contents_so_far}
use Rattle.intake.proofs.Hashing.{one_more, first_of_some}
use Rattle.intake.proofs.digests.hash_contents.Goals as goal

pub parts-preserved : goal.parts-preserved
parts-preserved c = λ was.
    let bytes = c.args.part.pieces.now in
    let i = c.parts.i in
    let before = take (65536 * i) bytes in
    let within : 65536 * i < length bytes = omega arith in
    let next = one_more bytes i c.piece-in-parts.result.now c.piece-in-parts.ensures in
    let first =
    first_of_some bytes i c.piece.result.now c.piece-in-parts.result.now c.piece.ensures c.piece-in-parts.ensures in
    let more = c.contents_in.ensures before (length-take-le (65536 * i) bytes (omega arith)) first in
    subst (Holds256 c.update.new.self) (sym more ∙ ap contents_so_far next)
    (c.update.ensures (contents_so_far before) (c.parts.invariant was))
