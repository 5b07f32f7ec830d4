use Rattle.live.proofs.Groups.{removed_are_dead}
use Rattle.live.proofs.limited_laws.limits_remove_dead_paths.Goals as goal

pub returns : goal.returns
returns c = removed_are_dead
