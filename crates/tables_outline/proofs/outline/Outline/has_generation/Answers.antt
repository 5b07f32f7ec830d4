use Rattle.std.proofs.Common.{is_some, sym, ap, ◌∙◌}
use Rattle.std.specs.Ordering.{nat_cmp}
use Rattle.std.specs.FinMap as finite
use Rattle.model.specs.World.{Path}
use Rattle.model.specs.Profiles.{has_generation, profile_or_new}
use Rattle.tables_outline.proofs.outline.Outline.has_generation.Goals as goal

pub returns-in-None : goal.returns-in-None
returns-in-None c =
    sym (ap is_some (finite.get-empty {X = Path} nat_cmp c.args.number))
    ∙ ap (λ o. has_generation (profile_or_new o) c.args.number) c.in-None.ensures
