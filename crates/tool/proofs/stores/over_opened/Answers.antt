use Rattle.std.proofs.Common.{subst, sym, refl}
use Rattle.std.proofs.KnownBytes.{Keeps-refl}
use Rattle.report.specs.Outputs.{console_of}
use Rattle.tool.specs.Files.{AnswersCause, DoesOpening}
use Rattle.tool.specs.Streams.{happened}
use Rattle.tool.proofs.Reading.{unread_within}
use Rattle.tool.proofs.stores.over_opened.Goals as goal

pub returns-in-Ok : goal.returns-in-Ok
returns-in-Ok g c = record {
  given = record {
    answer = λ d is.
        let console =
        happened g.R.Read.remaining g.W.Write.contents g.E.Write.contents c.args.console.now c.work_with.new.console
        c.work_with.result in
        subst (λ opened. DoesOpening g.S.Store opened c.args.config d console) (sym c.in-Ok.is)
        (c.work_with.ensures.given.answer d is);
    reads = c.work_with.ensures.given.reads;
  };
  same = c.work_with.ensures.same;
}

pub returns-in-Err : goal.returns-in-Err
returns-in-Err g c = record {
  given = record {
    answer = λ d is.
        let console =
        console_of g.R.Read.remaining g.W.Write.contents g.E.Write.contents c.args.console.now.input.now
        c.args.console.now.input.now c.args.console.now.output.now c.refuse_file.new.output
        c.args.console.now.errors.now c.refuse_file.new.errors c.refuse_file.result in
        subst (λ opened. DoesOpening g.S.Store opened c.args.config d console) (sym c.in-Err.is) (
          subst (λ cause. AnswersCause c.args.config.store_dir cause console.written) c.cause.ensures
              c.refuse_file.ensures,
          Keeps-refl (g.R.Read.remaining c.args.console.now.input.now),
        );
    reads = unread_within (g.T.Work.most c.args.work.now) (g.R.Read.remaining c.args.console.now.input.now);
  };
  same = (refl, refl, refl);
}
