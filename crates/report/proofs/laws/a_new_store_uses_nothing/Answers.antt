use Rattle.report.proofs.Worked.{new_store}
use Rattle.report.proofs.laws.a_new_store_uses_nothing.Goals as goal

pub returns : goal.returns
returns c = new_store
