use Rattle.std.proofs.Common.{ap, ◌∙◌}
use Rattle.model.specs.Refusals.{number}
use Rattle.report.proofs.Numbered.{configured, whole}
use Rattle.report.proofs.numbers.known_line.Goals as goal

pub returns-in-BadConfig : goal.returns-in-BadConfig
returns-in-BadConfig c = configured c.args.refusal (ap number c.in-BadConfig.is)

pub returns-in_default : goal.returns-in_default
returns-in_default c = c.refusal_line.ensures ∙ whole c.args.refusal c.in_default.not-BadConfig
