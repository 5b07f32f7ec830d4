use Rattle.tables_writes.proofs.Worlds.{have_a_world}
use Rattle.tables_writes.proofs.laws.open_tables_have_a_world.Goals as goal

pub returns : goal.returns
returns g c = have_a_world g.S.Store
