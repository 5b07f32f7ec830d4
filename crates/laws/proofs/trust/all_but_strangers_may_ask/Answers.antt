use Rattle.laws.proofs.Leave.{nobody_ignores_liveness, all_may_ask}
use Rattle.laws.proofs.trust.all_but_strangers_may_ask.Goals as goal

pub returns-clause-may : goal.returns-clause-may
returns-clause-may c = all_may_ask

pub returns-clause-never : goal.returns-clause-never
returns-clause-never c = nobody_ignores_liveness
