use Rattle.tables_world.proofs.SoundParts.{sound_by_parts}
use Rattle.laws.proofs.rows.sound_rows_are_sound_parts.Goals as goal

pub returns : goal.returns
returns c = sound_by_parts
