use Rattle.wire_bodies.specs.Bodies.{IsRuntime}
use Rattle.wire_bodies.proofs.WholeBodies.{says_none}
use Rattle.wire_bodies.proofs.whole.runtime_body.Goals as goal

pub returns-clause-bad : goal.returns-clause-bad
returns-clause-bad c =
    λ same. says_none (IsRuntime c.args.dir.now) c.args.body.now c.in_ok-entries.entries c.in_ok-entries.ensures.ok
    (c.runtime_head.ensures.bad same)
