use Rattle.wire.proofs.Seen.{port_from, port_some, port_steps}
use Rattle.wire.proofs.port.serve_port.Goals as goal

pub returns-clause-worlds : goal.returns-clause-worlds
returns-clause-worlds g c =
    port_from g.S.Store c.args.store.now c.serve.new.store c.args.connections _ _ _ c.serve.ensures

pub returns-clause-steps : goal.returns-clause-steps
returns-clause-steps g c =
    port_steps g.S.Store c.args.store.now c.serve.new.store c.args.connections _ _ _ c.serve.ensures

pub returns-clause-replies : goal.returns-clause-replies
returns-clause-replies g c =
    port_some g.S.Store c.args.store.now c.serve.new.store c.args.connections _ _ _ c.serve.ensures
