use Rattle.std.proofs.lemmas.Bool.{false≢true}
use Rattle.drv.proofs.Texts.{name_not_text}
use Rattle.drv.proofs.output.name_in.Goals as goal

pub returns-in_default : goal.returns-in_default
returns-in_default c = name_not_text c.args.bytes.items (λ text. false≢true (c.in_default.ensures.succeeds text))
