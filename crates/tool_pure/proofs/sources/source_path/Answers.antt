use Rattle.report.specs.Outputs.{console_of}
use Rattle.tool_pure.proofs.Results.{answers_to}
use Rattle.tool_pure.proofs.sources.source_path.Goals as goal

pub returns : goal.returns
returns g c = record {
  answer =
      answers_to _ _ _ _
      (console_of g.R.Read.remaining g.W.Write.contents g.E.Write.contents c.args.input.now
      c.source_path_result.new.input c.args.output.now c.give.new.output c.args.errors.now c.give.new.errors
      c.give.result)
      c.source_path_result.ensures.answer c.give.ensures;
  reads = c.source_path_result.ensures.reads;
}
