use Rattle.std.proofs.Common.{◌∙◌}
use Rattle.store_promises.proofs.Passing.{pass}
use Rattle.store_roots.proofs.permanent.may_set.Goals as goal

pub returns : goal.returns
returns c s w is = pass _ _ c.in_ok-is_named.ensures ∙ pass _ _ (c.in_ok-is_valid.ensures w is)
