use Rattle.laws.proofs.FaultyOutputs.{outputs_exclude, faulty_derivations}
use Rattle.laws.proofs.faulty_rows.faulty_outputs_are_unsound.Goals as goal

pub returns-clause-rows : goal.returns-clause-rows
returns-clause-rows c = outputs_exclude

pub returns-clause-derivations : goal.returns-clause-derivations
returns-clause-derivations c = faulty_derivations
