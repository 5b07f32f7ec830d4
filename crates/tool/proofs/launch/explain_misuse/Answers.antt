use Rattle.report.specs.Outputs.{written_of}
use Rattle.tool.proofs.Answered.{misused}
use Rattle.tool.proofs.launch.explain_misuse.Goals as goal

pub returns-in-Ok : goal.returns-in-Ok
returns-in-Ok g c =
    let w =
    written_of g.W.Write.contents g.E.Write.contents c.args.output.now c.explain_usage.new.output c.args.errors.now
    c.explain_usage.new.errors c.explain_usage.result in
    misused c.args.fault c.in-Ok.error w c.in-Ok.ensures c.explain_usage.ensures
