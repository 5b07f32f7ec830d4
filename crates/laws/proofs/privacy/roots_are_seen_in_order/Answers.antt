use Rattle.laws.proofs.Sights.{sees_root, sees_roots, shows_the_label}
use Rattle.laws.proofs.privacy.roots_are_seen_in_order.Goals as goal

pub returns-clause-one : goal.returns-clause-one
returns-clause-one c = sees_root

pub returns-clause-all : goal.returns-clause-all
returns-clause-all c = sees_roots

pub returns-clause-denial : goal.returns-clause-denial
returns-clause-denial c = shows_the_label
