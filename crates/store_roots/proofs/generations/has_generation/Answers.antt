use Rattle.std.proofs.Common.{sym, ap, ◌∙◌}
use Rattle.std.specs.Prelude.{string_bytes}
use Rattle.model.specs.Profiles.{has_generation}
use Rattle.tables_outline.specs.Outline.{OutlineValue, profile_of}
use Rattle.model.specs.declared.refusal.Refusal.TheVariants.{NoGeneration}
use Rattle.model.specs.Tests.{unless}
use Rattle.store_roots.proofs.generations.has_generation.Goals as goal

pub returns-then-not-has_generation : goal.returns-then-not-has_generation
returns-then-not-has_generation c w is =
    ap (λ b. unless b NoGeneration)
    (ap (λ (o : OutlineValue). has_generation
    (profile_of o (string_bytes c.args.owned.now.0, string_bytes c.args.owned.now.1)) c.args.number) is
    ∙ sym c.has_generation.ensures ∙ c.if-not-has_generation.true)

pub returns : goal.returns
returns c w is =
    ap (λ b. unless b NoGeneration)
    (ap (λ (o : OutlineValue). has_generation
    (profile_of o (string_bytes c.args.owned.now.0, string_bytes c.args.owned.now.1)) c.args.number) is
    ∙ sym c.has_generation.ensures ∙ c.if-not-has_generation.false)
