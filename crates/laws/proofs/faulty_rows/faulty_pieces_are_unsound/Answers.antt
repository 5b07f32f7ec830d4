use Rattle.laws.proofs.FaultyPieces.{pieces_exclude, faulty_cuts}
use Rattle.laws.proofs.faulty_rows.faulty_pieces_are_unsound.Goals as goal

pub returns-clause-pieces : goal.returns-clause-pieces
returns-clause-pieces c = pieces_exclude

pub returns-clause-rows : goal.returns-clause-rows
returns-clause-rows c = faulty_cuts
