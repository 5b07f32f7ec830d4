use Rattle.std.proofs.Common.{Ok, Err, sym, subst, refl}
use Rattle.report.specs.Outputs.{printed_of}
use Rattle.tool_pure.specs.Configuration.{IsConfig, opened_by}
use Rattle.tool.proofs.Answered.{said_unread, stops_else, stops_who, unread_console}
use Rattle.tool_words.specs.Line.{line_view}
use Rattle.tool.specs.Requests.{most_read}
use Rattle.tool.proofs.Reading.{unread_within}
use Rattle.tool.proofs.launch.answer_by.Goals as goal

pub returns-in-Ok : goal.returns-in-Ok
returns-in-Ok g c = record {
  given = record {
    answer = (
      Ok c.as_slice.result.now,
      subst (λ b. IsConfig (opened_by g.C.Read.remaining c.args.file) (Ok b)) (sym c.as_slice.ensures.value)
          c.in-Ok.ensures,
      c.answer.ensures.given.answer,
    );
    reads = c.answer.ensures.given.reads;
  };
  same = c.answer.ensures.same;
}

pub returns-in-Who : goal.returns-in-Who
returns-in-Who g c = record {
  given = record {
    answer =
        let line = c.args.line.now in (
          Err c.in-Err.stop,
          c.in-Err.ensures,
          stops_who line.task c.in-Err.stop (g.R.Read.remaining c.args.console.now.input.now)
              (g.E.Write.contents c.args.console.now.errors.now)
              (printed_of g.W.Write.contents c.args.console.now.output.now c.say.new.writer c.say.result)
              c.in-Who.is c.say.ensures,
        );
    reads =
        unread_within (most_read (line_view c.args.line.now).asked) (g.R.Read.remaining c.args.console.now.input.now);
  };
  same = (refl, refl, refl);
}

pub returns : goal.returns
returns g c = record {
  given = record {
    answer =
        let known = g.R.Read.remaining c.args.console.now.input.now in
        let out = g.W.Write.contents c.args.console.now.output.now in
        let p =
        printed_of g.E.Write.contents c.args.console.now.errors.now c.say-in_default.new.writer
        c.say-in_default.result in
        let line = c.args.line.now in (
          Err c.in-Err.stop,
          c.in-Err.ensures,
          stops_else line.task c.in-Err.stop (unread_console known out p) c.in_default.not-Who
              (said_unread c.in-Err.stop known out p c.say-in_default.ensures),
        );
    reads =
        unread_within (most_read (line_view c.args.line.now).asked) (g.R.Read.remaining c.args.console.now.input.now);
  };
  same = (refl, refl, refl);
}
