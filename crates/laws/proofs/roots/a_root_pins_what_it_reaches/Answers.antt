use Rattle.model.proofs.Pins.{leads_on, pins, pins_over_runs}
use Rattle.laws.proofs.roots.a_root_pins_what_it_reaches.Goals as goal

pub returns-clause-step : goal.returns-clause-step
returns-clause-step c = pins

pub returns-clause-after : goal.returns-clause-after
returns-clause-after c = leads_on

pub returns-clause-run : goal.returns-clause-run
returns-clause-run c = pins_over_runs
