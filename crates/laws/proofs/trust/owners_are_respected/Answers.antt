use Rattle.laws.proofs.Others.{others_only_lose, trusted_may, owners_may}
use Rattle.laws.proofs.trust.owners_are_respected.Goals as goal

pub returns-clause-others : goal.returns-clause-others
returns-clause-others c = others_only_lose

pub returns-clause-trusted : goal.returns-clause-trusted
returns-clause-trusted c = trusted_may

pub returns-clause-own : goal.returns-clause-own
returns-clause-own c = owners_may
