use Rattle.wire_bodies.specs.Bodies.{IsCollect}
use Rattle.wire_bodies.proofs.WholeBodies.{says_none}
use Rattle.wire_bodies.proofs.whole.collect_body.Goals as goal

pub returns-clause-bad : goal.returns-clause-bad
returns-clause-bad c =
    λ same. says_none IsCollect c.args.body.now c.in_ok-entries.entries c.in_ok-entries.ensures.ok
    (c.collect_head.ensures.bad same)
