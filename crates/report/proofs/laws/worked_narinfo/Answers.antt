use Rattle.report.proofs.Worked.{record_text}
use Rattle.report.proofs.laws.worked_narinfo.Goals as goal

pub returns : goal.returns
returns c = record_text
