use Rattle.paths.proofs.Made.{text-base, source-base}
use Rattle.paths.proofs.laws.computed_paths_are_base_names.Goals as goal

pub returns-clause-text : goal.returns-clause-text
returns-clause-text c = text-base

pub returns-clause-source : goal.returns-clause-source
returns-clause-source c = source-base
