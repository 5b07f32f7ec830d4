use Rattle.report.proofs.Worked.{usages}
use Rattle.report.proofs.laws.worked_usage.Goals as goal

pub returns : goal.returns
returns c = usages
