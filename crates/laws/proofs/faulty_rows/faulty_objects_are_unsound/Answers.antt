use Rattle.laws.proofs.FaultyObjects.{faulty_objects}
use Rattle.laws.proofs.faulty_rows.faulty_objects_are_unsound.Goals as goal

pub returns : goal.returns
returns c = faulty_objects
