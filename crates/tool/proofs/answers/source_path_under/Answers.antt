use Rattle.std.proofs.Common.{Some, arith, ap, refl}
use Rattle.tool_pure.proofs.Results.{within}
use Rattle.report.specs.Outputs.{console_of, printed_of}
use Rattle.tool_words.specs.Asked.{object_view}
use Rattle.clap.specs.Walk.{texts}
use Rattle.tool_pure.specs.Object.{source_path_answer}
use Rattle.tool.proofs.Called.{found_under}
use Rattle.tool.proofs.Answered.{source_stopped}
use Rattle.tool.proofs.Reading.{unread_within}
use Rattle.tool.proofs.answers.source_path_under.Goals as goal

pub returns-in-Err : goal.returns-in-Err
returns-in-Err g c = record {
  given = record {
    answer =
        let known = g.R.Read.remaining c.args.console.now.input.now in
        let p = printed_of g.E.Write.contents c.args.console.now.errors.now c.say.new.writer c.say.result in
        source_stopped c.args.config.now known (g.W.Write.contents c.args.console.now.output.now) p c.in-Err.stop
        c.in-Err.ensures.err c.say.ensures (object_view c.args.object.now);
    reads = unread_within (Some 16777224) (g.R.Read.remaining c.args.console.now.input.now);
  };
  same = (refl, refl, refl);
}

pub returns-in-Ok : goal.returns-in-Ok
returns-in-Ok g c = record {
  given = record {
    answer =
        let console =
        console_of g.R.Read.remaining g.W.Write.contents g.E.Write.contents c.args.console.now.input.now
        c.source_path.new.input c.args.console.now.output.now c.source_path.new.output c.args.console.now.errors.now
        c.source_path.new.errors c.source_path.result in
        found_under 16777224 source_path_answer c.args.config.now console c.in-Ok.config (object_view c.args.object.now)
        c.store_dir-dir.result.now
        (texts c.as_slice-references.result.now) c.in-Ok.ensures.ok c.store_dir-dir.ensures
        (ap texts c.as_slice-references.ensures.value) c.source_path.ensures;
    reads = within _ _ _ _ _ (omega arith) c.source_path.ensures.reads;
  };
  same = (refl, refl, refl);
}
