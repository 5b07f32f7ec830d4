use Rattle.laws.proofs.Failing.{others_show_no_root}
use Rattle.laws.proofs.NamedLive.{denials_name_the_living}
use Rattle.laws.proofs.refusals.denials_name_the_living.Goals as goal

pub returns-clause-live : goal.returns-clause-live
returns-clause-live c = denials_name_the_living

pub returns-clause-others : goal.returns-clause-others
returns-clause-others c = others_show_no_root
