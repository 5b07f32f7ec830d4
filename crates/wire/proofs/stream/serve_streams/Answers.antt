use Rattle.wire.proofs.Seen.{streams_from, streams_some, streams_steps}
use Rattle.wire.proofs.stream.serve_streams.Goals as goal

pub returns-clause-worlds : goal.returns-clause-worlds
returns-clause-worlds g c = streams_from g.S.Store c.args.store.now c.serve.new.store _ c.serve.ensures

pub returns-clause-steps : goal.returns-clause-steps
returns-clause-steps g c = streams_steps g.S.Store c.args.store.now c.serve.new.store _ c.serve.ensures

pub returns-clause-replies : goal.returns-clause-replies
returns-clause-replies g c = streams_some g.S.Store c.args.store.now c.serve.new.store _ c.serve.ensures
