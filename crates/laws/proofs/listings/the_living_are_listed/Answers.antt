use Rattle.model.proofs.WorldLives.{as_said, targets_live, first_shown}
use Rattle.laws.proofs.listings.the_living_are_listed.Goals as goal

pub returns-clause-paths : goal.returns-clause-paths
returns-clause-paths c = as_said

pub returns-clause-targets : goal.returns-clause-targets
returns-clause-targets c = targets_live

pub returns-clause-first : goal.returns-clause-first
returns-clause-first c = first_shown
