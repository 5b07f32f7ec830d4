use Rattle.std.proofs.Common.{subst}
use Rattle.tool.specs.Streams.{happened}
use Rattle.tool.specs.Works.{DoesAt}
use Rattle.tool.proofs.work.work_with.Goals as goal

pub returns : goal.returns
returns g c = record {
  given = record {
    answer = λ d is.
        let console =
        happened g.R.Read.remaining g.W.Write.contents g.E.Write.contents c.args.console.now
        c.perform-worked.new.console c.perform-worked.result.status in (
          c.perform-worked.new.store,
          subst (λ old. DoesAt g.S.Store d console old c.perform-worked.new.store) c.store_for-store.ensures
              (c.perform-worked.ensures.answered.given.answer d is),
        );
    reads = c.perform-worked.ensures.answered.given.reads;
  };
  same = c.perform-worked.ensures.answered.same;
}
