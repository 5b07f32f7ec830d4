use Rattle.std.proofs.Common.{◌∙◌}
use Rattle.store_promises.proofs.Passing.{pass}
use Rattle.store_roots.proofs.user_roots.may_drop.Goals as goal

pub returns : goal.returns
returns c s w is = pass _ _ c.in_ok-are_named.ensures ∙ pass _ _ (c.in_ok-has_user_root.ensures w is)
