use Rattle.std.proofs.Common.{ℕ, Option, sym, ap, ◌∙◌}
use Rattle.std.specs.Prelude.{is_some, string_bytes}
use Rattle.model.specs.Profiles.{previous}
use Rattle.tables_outline.specs.Outline.{OutlineValue, profile_of}
use Rattle.model.specs.declared.refusal.Refusal.TheVariants.{NoOlderGeneration}
use Rattle.model.specs.Tests.{unless}
use Rattle.store_roots.proofs.generations.has_older.Goals as goal

pub returns-in-Some : goal.returns-in-Some
returns-in-Some c w is =
    let below =
    ap (λ (o : OutlineValue). previous
    (profile_of o (string_bytes c.args.owned.now.0, string_bytes c.args.owned.now.1))) is in (
      ap (λ (r : Option ℕ). unless (is_some r) NoOlderGeneration) (below ∙ sym c.in-Some.ensures),
      c.in-Some.ensures ∙ sym below,
    )

pub returns-in-None : goal.returns-in-None
returns-in-None c w is =
    ap (λ (r : Option ℕ). unless (is_some r) NoOlderGeneration)
    (ap (λ (o : OutlineValue). previous
    (profile_of o (string_bytes c.args.owned.now.0, string_bytes c.args.owned.now.1))) is
    ∙ sym c.in-None.ensures)
