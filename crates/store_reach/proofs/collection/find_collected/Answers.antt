use Rattle.std.proofs.Common.{ap, ◌∙◌}
use Rattle.model.specs.Liveness.{bytes_in}
use Rattle.store_reach.proofs.collection.find_collected.Goals as goal

pub returns-clause-bytes : goal.returns-clause-bytes
returns-clause-bytes c w is =
    c.bytes_in-bytes.ensures w is ∙ ap (bytes_in w) (c.deref.ensures.value ∙ c.in_ok-paths.ensures w is)
