use Rattle.tool.specs.Streams.{happened}
use Rattle.tool.specs.Works.{DoesAt, serves}
use Rattle.tool.proofs.Done.{only}
use Rattle.tool.proofs.serve.ServingWork.perform.Goals as goal

pub returns-clause-answered : goal.returns-clause-answered
returns-clause-answered g c = record {
  given = record {
    answer = λ d is.
        let console =
        happened g.R.Read.remaining g.W.Write.contents g.E.Write.contents c.args.console.now
        c.serve_over.new.console c.serve_over.result in
        only (serves c.args.self.now.arguments) d
        (λ x. DoesAt g.S.Store x console c.args.store.now c.serve_over.new.store) is
        c.serve_over.ensures.given.answer;
    reads = c.serve_over.ensures.given.reads;
  };
  same = c.serve_over.ensures.same;
}
