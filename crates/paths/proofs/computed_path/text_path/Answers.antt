use Rattle.paths.proofs.computed_path.text_path.Goals as goal

pub returns-clause-value : goal.returns-clause-value
returns-clause-value c = c.text_path_of.ensures.value c.args.contents.now c.digest.ensures
