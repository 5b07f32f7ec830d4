use Rattle.model.proofs.EveryRoot.{each_root}
use Rattle.laws.proofs.roots.every_entry_is_a_root.Goals as goal

pub returns : goal.returns
returns c = each_root
