use Rattle.laws.proofs.FaultyRoots.{faulty_sessions}
use Rattle.laws.proofs.faulty_rows.faulty_sessions_are_unsound.Goals as goal

pub returns : goal.returns
returns c = faulty_sessions
