use Rattle.tables_world.proofs.NewWorld.{new_world_sound}
use Rattle.laws.proofs.rows.the_new_world_is_sound.Goals as goal

pub returns : goal.returns
returns c = new_world_sound
