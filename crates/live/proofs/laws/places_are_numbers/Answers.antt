use Rattle.live.proofs.Named.{places_are_numbers, places_are_targets}
use Rattle.live.proofs.laws.places_are_numbers.Goals as goal

pub returns-clause-numbers : goal.returns-clause-numbers
returns-clause-numbers c = places_are_numbers

pub returns-clause-targets : goal.returns-clause-targets
returns-clause-targets c = places_are_targets
