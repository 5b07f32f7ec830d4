use Rattle.std.proofs.Common.{refl, ap}
use Rattle.model.specs.Reply.{paths}
use Rattle.store.proofs.liveness.list_dead.Goals as goal

pub returns : goal.returns
returns c caller w is = (refl, ap paths (c.in_ok-paths.ensures w is), refl)
