use Rattle.model.proofs.Mirror.{mirrors_steps}
use Rattle.model.proofs.MirrorRuns.{mirrors_runs, runs_look_alike}
use Rattle.laws.proofs.privacy.runtime_labels_do_not_show.Goals as goal

pub returns-clause-step : goal.returns-clause-step
returns-clause-step c = mirrors_steps

pub returns-clause-run : goal.returns-clause-run
returns-clause-run c = mirrors_runs

pub returns-clause-any : goal.returns-clause-any
returns-clause-any c = runs_look_alike
