use Rattle.laws.proofs.RelistedSessions.{sets_are_reported}
use Rattle.laws.proofs.roots.listings_gain_what_was_set.Goals as goal

pub returns : goal.returns
returns c = sets_are_reported
