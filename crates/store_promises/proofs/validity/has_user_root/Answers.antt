use Rattle.std.proofs.Common.{sym, ap, ◌∙◌}
use Rattle.std.specs.Prelude.{string_bytes}
use Rattle.std.specs.FinMap as finite
use Rattle.tables_outline.specs.Outline.{OutlineValue}
use Rattle.model.specs.declared.refusal.Refusal.TheVariants.{NoRoot}
use Rattle.model.specs.Tests.{unless}
use Rattle.store_promises.proofs.validity.has_user_root.Goals as goal

pub returns-then-not-has_user_root : goal.returns-then-not-has_user_root
returns-then-not-has_user_root c w is =
    ap (λ b. unless b NoRoot) (ap (λ (o : OutlineValue). finite.contains_key o.user_roots
    (string_bytes c.args.owned.now.0, string_bytes c.args.owned.now.1)) is ∙ sym c.has_user_root.ensures
    ∙ c.if-not-has_user_root.true)

pub returns : goal.returns
returns c w is =
    ap (λ b. unless b NoRoot) (ap (λ (o : OutlineValue). finite.contains_key o.user_roots
    (string_bytes c.args.owned.now.0, string_bytes c.args.owned.now.1)) is ∙ sym c.has_user_root.ensures
    ∙ c.if-not-has_user_root.false)
