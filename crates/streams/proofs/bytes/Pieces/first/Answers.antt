use Rattle.streams.specs.Cut.{piece_of}
use Rattle.streams.proofs.bytes.Pieces.first.Goals as goal

pub returns : goal.returns
unfolding piece_of
returns c = c.piece.ensures
