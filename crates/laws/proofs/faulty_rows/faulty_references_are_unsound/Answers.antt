use Rattle.laws.proofs.FaultyReferences.{references_exclude}
use Rattle.laws.proofs.faulty_rows.faulty_references_are_unsound.Goals as goal

pub returns : goal.returns
returns c = references_exclude
