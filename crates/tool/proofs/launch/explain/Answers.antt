use Rattle.tool.proofs.launch.explain.Goals as goal

pub returns-in-Usage : goal.returns-in-Usage
returns-in-Usage g c = rw c.in-Usage.is c.explain_usage.ensures
