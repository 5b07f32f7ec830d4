use Rattle.tables_load_objects.specs.Cut.{parts_of}
use Rattle.tables_load_objects.proofs.Cut.{tested_cut}
use Rattle.tables_load_objects.proofs.piece_sizes.is_cut.Goals as goal

pub returns : goal.returns
returns c = tested_cut c.go_on.result c.args.row.now (parts_of c.args.pieces.now) c.go_on.ensures
