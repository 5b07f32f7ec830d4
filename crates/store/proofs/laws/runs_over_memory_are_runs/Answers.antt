use Rattle.sqlite.specs.State.{HasCleanDisk}
use Rattle.sqlite.specs.Steps.{over_memory}
use Rattle.sqlite.specs.Held.{state}
use Rattle.sqlite.proofs.Callers.{memory_is_clean}
use Rattle.store.proofs.Clean.{run_clean}
use Rattle.store.proofs.laws.runs_over_memory_are_runs.Goals as goal

pub returns : goal.returns
returns c h s w calls replies next run =
    run_clean (HasCleanDisk (state over_memory h)) s w calls replies next (memory_is_clean h) run
