use Rattle.std.proofs.Common.{length, sym, ◌∙◌}
use Rattle.std.proofs.lemmas.Bool.{eqb-true}
use Rattle.std.proofs.lemmas.List.{nil_from_length}
use Rattle.store_reach.proofs.Removed.{positive}
use Rattle.store_reach.proofs.removal.is_nothing.Goals as goal

pub returns-clause-none : goal.returns-clause-none
returns-clause-none c h =
    nil_from_length c.args.paths.now (eqb-true (length c.args.paths.now) 0 (sym c.is_empty.ensures ∙ h))

pub returns-clause-some : goal.returns-clause-some
returns-clause-some c h = positive c.args.paths.now (sym c.is_empty.ensures ∙ h)
