use Rattle.std.proofs.Common.{◌∙◌}
use Rattle.store_promises.proofs.Passing.{pass}
use Rattle.store_adds.proofs.sources.examine_source.Goals as goal

pub returns : goal.returns
returns c w is = (
  pass _ _ c.in_ok-are_few.ensures ∙ pass _ _ c.in_ok-is_archive.ensures ∙ pass _ _ c.in_ok-are_others.ensures
      ∙ pass _ _ c.in_ok-outputs.ensures.0
      ∙ pass _ _ (c.in_ok-are_valid.ensures w is),
  c.in_ok-outputs.ensures.1,
)
