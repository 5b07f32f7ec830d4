use Rattle.std.proofs.Common.{◌∙◌}
use Rattle.store_promises.proofs.Passing.{pass}
use Rattle.store_roots.proofs.temporary.may_end.Goals as goal

pub returns : goal.returns
returns c s w = (pass _ _ c.in_ok-is_named.ensures ∙ pass _ _ c.in_ok-session.ensures.0, c.in_ok-session.ensures.1)
