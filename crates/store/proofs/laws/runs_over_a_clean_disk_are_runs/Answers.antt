use Rattle.sqlite.specs.State.{HasCleanDisk}
use Rattle.sqlite.specs.Held.{state}
use Rattle.store.proofs.Clean.{run_read, step_clean}
use Rattle.store.proofs.laws.runs_over_a_clean_disk_are_runs.Goals as goal

pub returns-clause-step : goal.returns-clause-step
returns-clause-step g c h = step_clean (HasCleanDisk (state g.S.Store h))

pub returns-clause-run : goal.returns-clause-run
returns-clause-run g c h = run_read (HasCleanDisk (state g.S.Store h))
