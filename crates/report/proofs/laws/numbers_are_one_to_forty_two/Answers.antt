use Rattle.report.proofs.Table.{numbered}
use Rattle.report.proofs.laws.numbers_are_one_to_forty_two.Goals as goal

pub returns : goal.returns
returns c = numbered
