use Rattle.laws.proofs.Reliance.{strangers_denied, nothing_replaced, nobody_plants, roots_are_their_owners}
use Rattle.laws.proofs.trust.people_can_rely_on.Goals as goal

pub returns-clause-strangers : goal.returns-clause-strangers
returns-clause-strangers c = strangers_denied

pub returns-clause-objects : goal.returns-clause-objects
returns-clause-objects c = nothing_replaced

pub returns-clause-plants : goal.returns-clause-plants
returns-clause-plants c = nobody_plants

pub returns-clause-roots : goal.returns-clause-roots
returns-clause-roots c = roots_are_their_owners
