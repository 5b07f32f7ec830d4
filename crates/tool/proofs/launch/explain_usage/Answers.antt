use Rattle.report.specs.Outputs.{written_of}
use Rattle.tool.proofs.Answered.{explained}
use Rattle.tool.proofs.launch.explain_usage.Goals as goal

pub returns : goal.returns
returns g c =
    let w =
    written_of g.W.Write.contents g.E.Write.contents c.args.output.now c.explain_by.new.output c.args.errors.now
    c.explain_by.new.errors c.explain_by.result in
    explained c.args.fault.now c.use_stderr.result _ w c.use_stderr.ensures c.explain_by.ensures.fault
    c.explain_by.ensures.help c.explain_by.ensures.memory
