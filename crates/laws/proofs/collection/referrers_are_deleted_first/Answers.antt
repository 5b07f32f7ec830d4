use Rattle.laws.proofs.Cycles.{cycles_are_deleted_by_the_least}
use Rattle.laws.proofs.OneByOne.{referrers_are_deleted_first}
use Rattle.laws.proofs.collection.referrers_are_deleted_first.Goals as goal

pub returns-clause-one_by_one : goal.returns-clause-one_by_one
returns-clause-one_by_one c = referrers_are_deleted_first

pub returns-clause-cycles : goal.returns-clause-cycles
returns-clause-cycles c = cycles_are_deleted_by_the_least
