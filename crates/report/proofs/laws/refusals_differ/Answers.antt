use Rattle.report.proofs.Table.{are_lines, differ}
use Rattle.report.proofs.laws.refusals_differ.Goals as goal

pub returns-clause-line : goal.returns-clause-line
returns-clause-line c = are_lines

pub returns-clause-own : goal.returns-clause-own
returns-clause-own c = differ
