use Rattle.laws.proofs.ProfileChanges.{sets, rolls_back, switches, deletes_generations}
use Rattle.laws.proofs.profiles.profiles_change_exactly.Goals as goal

pub returns-clause-set : goal.returns-clause-set
returns-clause-set c = sets

pub returns-clause-back : goal.returns-clause-back
returns-clause-back c = rolls_back

pub returns-clause-switch : goal.returns-clause-switch
returns-clause-switch c = switches

pub returns-clause-deletion : goal.returns-clause-deletion
returns-clause-deletion c = deletes_generations
