use Rattle.laws.proofs.NotListed.{dropped_labels_are_not_reported}
use Rattle.laws.proofs.RelistedSessions.{drops_are_reported}
use Rattle.laws.proofs.roots.roots_that_were_dropped_are_not_listed.Goals as goal

pub returns-clause-roots : goal.returns-clause-roots
returns-clause-roots c = drops_are_reported

pub returns-clause-labels : goal.returns-clause-labels
returns-clause-labels c = dropped_labels_are_not_reported
