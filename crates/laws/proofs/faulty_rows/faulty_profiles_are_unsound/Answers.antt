use Rattle.laws.proofs.FaultyRoots.{faulty_profiles, faulty_generations}
use Rattle.laws.proofs.faulty_rows.faulty_profiles_are_unsound.Goals as goal

pub returns-clause-profiles : goal.returns-clause-profiles
returns-clause-profiles c = faulty_profiles

pub returns-clause-generations : goal.returns-clause-generations
returns-clause-generations c = faulty_generations
