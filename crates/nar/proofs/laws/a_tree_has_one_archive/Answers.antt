use Rattle.std.proofs.Common.{sym, ◌∙◌}
use Rattle.nar.proofs.Unique.{one_reading}
use Rattle.nar.proofs.laws.a_tree_has_one_archive.Goals as goal

pub returns-clause-one_spelling : goal.returns-clause-one_spelling
returns-clause-one_spelling c = λ t a b x y. x.spells ∙ sym y.spells

pub returns-clause-one_tree : goal.returns-clause-one_tree
returns-clause-one_tree c = λ input t u x y. one_reading t u input x y
