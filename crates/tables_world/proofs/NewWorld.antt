-- The world of a database that was just made is sound, since it holds nothing.
use Rattle.std.proofs.Common.{ℕ, List}
use Rattle.paths.specs.Root.{bytes_cmp}
use Rattle.model.specs.World.{Path, pair_cmp, temporary_cmp, no_world}
use Rattle.model.specs.Sound.{IsSound}
use Rattle.model.proofs.Empty.{no_entry, no_key}

pub new_world_sound : (dir : List ℕ) → IsSound dir no_world
new_world_sound dir = record {
  objects = λ p o e. absurd (no_entry bytes_cmp p o e);
  permanent_name = λ name h. absurd (no_key Path bytes_cmp name h);
  permanent_target = λ name t e. absurd (no_entry bytes_cmp name t e);
  user_root_owner = λ owned h. absurd (no_key Path pair_cmp owned h);
  user_root_name = λ owned h. absurd (no_key Path pair_cmp owned h);
  user_root_target = λ owned t e. absurd (no_entry pair_cmp owned t e);
  profiles = λ owned p e. absurd (no_entry pair_cmp owned p e);
  runtime_label = λ r h. absurd (no_key (Unit {0}) pair_cmp r h);
  runtime_target = λ r h. absurd (no_key (Unit {0}) pair_cmp r h);
  temporary_owner = λ t h. absurd (no_key (Unit {0}) temporary_cmp t h);
  temporary_session = λ t h. absurd (no_key (Unit {0}) temporary_cmp t h);
  temporary_target = λ t h. absurd (no_key (Unit {0}) temporary_cmp t h);
}
