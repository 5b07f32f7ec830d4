use Rattle.paths.proofs.computed_path.source_path.Goals as goal

pub returns-clause-value : goal.returns-clause-value
returns-clause-value c = c.source_path_of.ensures.value c.args.nar.now c.digest.ensures
