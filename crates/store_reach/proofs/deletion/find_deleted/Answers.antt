use Rattle.std.proofs.Common.{ap, ap₂, ◌∙◌}
use Rattle.model.specs.Liveness.{bytes_in}
use Rattle.store_reach.proofs.deletion.find_deleted.Goals as goal

pub returns : goal.returns
returns c w is = (
  c.in_ok-are_valid.ensures w is,
  ap₂ (λ ps n. (ps, n)) (c.in_ok-paths.ensures w is)
      (c.bytes_in-bytes.ensures w is ∙ ap (bytes_in w) (c.deref.ensures.value ∙ c.in_ok-paths.ensures w is)),
)
