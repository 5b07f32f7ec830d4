use Rattle.tables_world.proofs.NewRows.{new_rows_sound, reports_nothing}
use Rattle.laws.proofs.rows.new_rows_are_sound.Goals as goal

pub returns-clause-sound : goal.returns-clause-sound
returns-clause-sound c = new_rows_sound

pub returns-clause-world : goal.returns-clause-world
returns-clause-world c = reports_nothing
