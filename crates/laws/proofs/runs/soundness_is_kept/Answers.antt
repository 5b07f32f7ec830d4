use Rattle.laws.proofs.SoundSteps.{keeps_sound, runs_keep_sound}
use Rattle.laws.proofs.runs.soundness_is_kept.Goals as goal

pub returns-clause-step : goal.returns-clause-step
returns-clause-step c = keeps_sound

pub returns-clause-run : goal.returns-clause-run
returns-clause-run c = runs_keep_sound
