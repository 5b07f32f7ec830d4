use Rattle.report.proofs.Worked.{denials, refusals, answers}
use Rattle.report.proofs.laws.worked_lines.Goals as goal

pub returns-clause-denials : goal.returns-clause-denials
returns-clause-denials c = denials

pub returns-clause-refusals : goal.returns-clause-refusals
returns-clause-refusals c = refusals

pub returns-clause-answers : goal.returns-clause-answers
returns-clause-answers c = answers
