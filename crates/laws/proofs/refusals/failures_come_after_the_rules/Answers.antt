use Rattle.laws.proofs.Failing.{fails_past_the_rules, may_fail}
use Rattle.laws.proofs.refusals.failures_come_after_the_rules.Goals as goal

pub returns-clause-only : goal.returns-clause-only
returns-clause-only c = fails_past_the_rules

pub returns-clause-may : goal.returns-clause-may
returns-clause-may c = may_fail
