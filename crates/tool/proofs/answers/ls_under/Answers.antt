use Rattle.std.proofs.Common.{Some, refl}
use Rattle.report.specs.Outputs.{printed_of}
use Rattle.tool.proofs.Answered.{ls_stopped}
use Rattle.tool.proofs.Reading.{unread_within}
use Rattle.tool.proofs.answers.ls_under.Goals as goal

pub returns-in-Err : goal.returns-in-Err
returns-in-Err g c = record {
  given = record {
    answer =
        let known = g.R.Read.remaining c.args.console.now.input.now in
        let p = printed_of g.E.Write.contents c.args.console.now.errors.now c.say.new.writer c.say.result in
        ls_stopped c.args.config.now known (g.W.Write.contents c.args.console.now.output.now) p c.in-Err.stop
        c.in-Err.ensures.err c.say.ensures;
    reads = unread_within (Some 16777224) (g.R.Read.remaining c.args.console.now.input.now);
  };
  same = (refl, refl, refl);
}
