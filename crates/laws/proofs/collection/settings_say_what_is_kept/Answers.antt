use Rattle.laws.proofs.KeepSettings.{edges_as_set, living_keep}
use Rattle.laws.proofs.collection.settings_say_what_is_kept.Goals as goal

pub returns-clause-edges : goal.returns-clause-edges
returns-clause-edges c = edges_as_set

pub returns-clause-living : goal.returns-clause-living
returns-clause-living c = living_keep
