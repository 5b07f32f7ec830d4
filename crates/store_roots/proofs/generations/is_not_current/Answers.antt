use Rattle.std.proofs.Common.{not, sym, ap, ◌∙◌}
use Rattle.std.specs.Prelude.{◌==◌, string_bytes}
use Rattle.tables_outline.specs.Outline.{OutlineValue, profile_of}
use Rattle.model.specs.declared.refusal.Refusal.TheVariants.{CurrentGeneration}
use Rattle.model.specs.Tests.{unless}
use Rattle.store_roots.proofs.generations.is_not_current.Goals as goal

pub returns-then-is_current : goal.returns-then-is_current
returns-then-is_current c w is =
    ap (λ b. unless (not b) CurrentGeneration)
    (ap (λ (o : OutlineValue). (profile_of o
    (string_bytes c.args.owned.now.0, string_bytes c.args.owned.now.1)).current == c.args.number) is
    ∙ sym c.is_current.ensures ∙ c.if-is_current.true)

pub returns : goal.returns
returns c w is =
    ap (λ b. unless (not b) CurrentGeneration)
    (ap (λ (o : OutlineValue). (profile_of o
    (string_bytes c.args.owned.now.0, string_bytes c.args.owned.now.1)).current == c.args.number) is
    ∙ sym c.is_current.ensures ∙ c.if-is_current.false)
