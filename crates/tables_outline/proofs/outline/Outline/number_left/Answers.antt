use Rattle.std.proofs.Common.{sym, ap, ◌∙◌}
use Rattle.std.specs.Prelude.{nat_le}
use Rattle.model.specs.Profiles.{number_for, profile_or_new}
use Rattle.paths.specs.Decimal.{max_generation}
use Rattle.tables_outline.proofs.ProfileEntries.{first_number}
use Rattle.tables_outline.proofs.outline.Outline.number_left.Goals as goal

pub returns-in-None-clause-fits : goal.returns-in-None-clause-fits
returns-in-None-clause-fits c =
    ap (λ n. nat_le n max_generation) (sym (first_number c.args.target.now))
    ∙ ap (λ o. nat_le (number_for (profile_or_new o) c.args.target.now) max_generation) c.in-None.ensures

pub returns-in-None-clause-number : goal.returns-in-None-clause-number
returns-in-None-clause-number c =
    sym (first_number c.args.target.now) ∙ ap (λ o. number_for (profile_or_new o) c.args.target.now) c.in-None.ensures
