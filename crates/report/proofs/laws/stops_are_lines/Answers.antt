use Rattle.report.proofs.Stops.{stops}
use Rattle.report.proofs.laws.stops_are_lines.Goals as goal

pub returns : goal.returns
returns c = stops
