use Rattle.std.proofs.Common.{ℕ, [], ◌∷◌, sym, ap, ◌∙◌}
use Rattle.std.specs.Prelude.{nat_le}
use Rattle.paths.specs.Decimal.{max_generation}
use Rattle.model.specs.declared.refusal.Refusal.TheVariants.{GenerationLimit}
use Rattle.model.specs.Profiles.{number_for}
use Rattle.model.specs.Tests.{first_failing, unless}
use Rattle.tables_outline.specs.Maps.{pair_bytes}
use Rattle.tables_outline.specs.Outline.{OutlineValue, profile_of}
use Rattle.store_promises.proofs.Passing.{pass}
use Rattle.store_roots.proofs.profiles.next_number.Goals as goal

pub returns-in-Some-clause-reported : goal.returns-in-Some-clause-reported
returns-in-Some-clause-reported c s w is =
    let left = ap (λ (o : OutlineValue). number_for (profile_of o (pair_bytes c.args.owned.now)) c.args.path.now) is in
    let fits =
    ap (λ (n : ℕ). unless (nat_le n max_generation) GenerationLimit) left
    ∙ ap (λ b. unless b GenerationLimit) (sym c.in-Some.ensures.fits) in (
      pass _ _ c.in_ok-are_named.ensures ∙ pass _ _ (c.in_ok-is_valid.ensures w is) ∙ pass _ _ fits,
      c.in-Some.ensures.number ∙ sym left,
    )

pub returns-in-None-clause-reported : goal.returns-in-None-clause-reported
returns-in-None-clause-reported c s w is =
    let left = ap (λ (o : OutlineValue). number_for (profile_of o (pair_bytes c.args.owned.now)) c.args.path.now) is in
    let full =
    ap (λ (n : ℕ). unless (nat_le n max_generation) GenerationLimit) left
    ∙ ap (λ b. unless b GenerationLimit) (sym c.in-None.ensures.fits) in
    pass _ _ c.in_ok-are_named.ensures ∙ pass _ _ (c.in_ok-is_valid.ensures w is)
    ∙ ap (λ t. first_failing (t ∷ [])) full
