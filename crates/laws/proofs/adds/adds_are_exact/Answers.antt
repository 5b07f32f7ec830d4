use Rattle.laws.proofs.Adding.{text_exact, source_exact, import_exact}
use Rattle.laws.proofs.adds.adds_are_exact.Goals as goal

pub returns-clause-text : goal.returns-clause-text
returns-clause-text c = text_exact

pub returns-clause-source : goal.returns-clause-source
returns-clause-source c = source_exact

pub returns-clause-import : goal.returns-clause-import
returns-clause-import c = import_exact
