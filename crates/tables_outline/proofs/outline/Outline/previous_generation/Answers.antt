use Rattle.std.proofs.Common.{sym, ap, ◌∙◌}
use Rattle.model.specs.Profiles.{previous, profile_or_new}
use Rattle.tables_outline.proofs.ProfileEntries.{none_before}
use Rattle.tables_outline.proofs.outline.Outline.previous_generation.Goals as goal

pub returns-in-None : goal.returns-in-None
returns-in-None c = sym none_before ∙ ap (λ o. previous (profile_or_new o)) c.in-None.ensures
