use Rattle.std.proofs.Common.{[], ◌∷◌, refl, sym, ap, ◌∙◌}
use Rattle.std.specs.FinMap as finite
use Rattle.policy.specs.declared.kinds.Class.{Class}
use Rattle.tables_outline.specs.Outline.{OutlineValue}
use Rattle.model.specs.Liveness.{roots_that_keep}
use Rattle.model.specs.Reply.{roots}
use Rattle.model.specs.declared.refusal.Refusal.TheVariants.{NotValid}
use Rattle.model.specs.Seen.{seen}
use Rattle.model.specs.Tests.{first_failing, unless}
use Rattle.store_promises.proofs.Outlined.{has_outlined}
use Rattle.store.proofs.root_lists.list_roots_of.Goals as goal

pub returns-then-not-has : goal.returns-then-not-has
returns-then-not-has c caller is w reported =
    let p = c.args.path in (
      ap (λ b. first_failing (unless b NotValid ∷ []))
          (sym (has_outlined w p) ∙ ap (λ (x : OutlineValue). finite.contains_key x.objects p) reported
          ∙ sym c.has.ensures
          ∙ c.if-not-has.true),
      refl,
    )

pub returns : goal.returns
returns c caller is w reported =
    let p = c.args.path in (
      ap (λ b. first_failing (unless b NotValid ∷ []))
          (sym (has_outlined w p) ∙ ap (λ (x : OutlineValue). finite.contains_key x.objects p) reported
          ∙ sym c.has.ensures
          ∙ c.if-not-has.false),
      ap roots (c.in_ok-roots.ensures w reported
          ∙ ap (λ (class : Class). seen class (roots_that_keep c.args.config.now w p)) is),
      refl,
    )
