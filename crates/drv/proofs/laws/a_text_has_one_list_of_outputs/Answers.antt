use Rattle.std.proofs.Common.{sym, ◌∙◌}
use Rattle.std.proofs.lemmas.Option.{same_Some}
use Rattle.drv.proofs.Whole.{listed_again}
use Rattle.drv.proofs.laws.a_text_has_one_list_of_outputs.Goals as goal

pub returns : goal.returns
returns c = λ dir text xs ys a b. same_Some xs ys (sym (listed_again dir text xs a) ∙ listed_again dir text ys b)
