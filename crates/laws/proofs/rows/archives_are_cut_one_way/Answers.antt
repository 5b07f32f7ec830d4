use Rattle.tables_world.proofs.Cuts.{cuts_one_way}
use Rattle.laws.proofs.rows.archives_are_cut_one_way.Goals as goal

pub returns : goal.returns
returns c = cuts_one_way
