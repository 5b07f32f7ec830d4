use Rattle.std.proofs.Common.{sym, ◌∙◌}
use Rattle.std.proofs.lemmas.Option.{same_Some}
use Rattle.model.specs.Adds.{text_archive}
use Rattle.store_adds.proofs.archives.text_archive.Goals as goal

pub returns-clause-pieces : goal.returns-clause-pieces
unfolding text_archive
returns-clause-pieces c = same_Some _ _ (sym c.in_ok-arrived.ensures.pieces ∙ c.in_ok-nar.ensures)
