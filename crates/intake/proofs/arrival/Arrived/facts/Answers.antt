use Rattle.intake.proofs.Plain.{facts_are}
use Rattle.intake.proofs.arrival.Arrived.facts.Goals as goal

pub returns : goal.returns
returns c =
    λ reported. facts_are c.args.self.now.pieces _ _ _ reported.hash c.len.ensures
    (c.plain_hash.ensures reported.bytes reported.fault reported.contents)
