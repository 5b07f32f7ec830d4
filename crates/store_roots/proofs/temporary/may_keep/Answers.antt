use Rattle.std.proofs.Common.{◌∙◌}
use Rattle.store_promises.proofs.Passing.{pass}
use Rattle.store_roots.proofs.temporary.may_keep.Goals as goal

pub returns-clause-reported : goal.returns-clause-reported
returns-clause-reported c s w is =
    pass _ _ c.in_ok-is_named.ensures ∙ pass _ _ c.in_ok-session.ensures.0 ∙ pass _ _ (c.in_ok-is_valid.ensures w is)
