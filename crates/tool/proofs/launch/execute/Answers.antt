use Rattle.std.proofs.Common.{inr, sym, ◌∙◌}
use Rattle.tool.proofs.Answered.{opened_some, text_some}
use Rattle.tool.proofs.launch.execute.Goals as goal

pub returns : goal.returns
returns g c = record {
  given = record {
    answer =
        inr (
          _,
          opened_some _ c.open_config-file.result ∙ c.open_config-file.ensures
              ∙ sym (text_some c.args.line.now.config),
          c.answer_by.ensures.given.answer,
        );
    reads = c.answer_by.ensures.given.reads;
  };
  same = c.answer_by.ensures.same;
}
