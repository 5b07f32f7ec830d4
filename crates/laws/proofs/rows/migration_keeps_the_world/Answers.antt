use Rattle.tables_world.proofs.Migrating.{migrates_soundly}
use Rattle.laws.proofs.rows.migration_keeps_the_world.Goals as goal

pub returns : goal.returns
returns c = migrates_soundly
