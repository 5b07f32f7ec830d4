-- A call fails only where no rule but `Live` denies it, and may fail there; a denial by another rule shows no root.
use Rattle.std.proofs.Common.{◌≡◌, Some, None, Option, refl, sym, subst, ◌∙◌, inl, inr, ◌⊎◌}
use Rattle.policy.specs.Settings.{Settings}
use Rattle.policy.specs.Caller.{Caller}
use Rattle.model.specs.World.{World}
use Rattle.model.specs.Request.{Request}
use Rattle.policy.specs.declared.kinds.Rule.{Rule}
use Rattle.policy.specs.declared.kinds.Rule.TheVariants.{Connect, TrustedImport, TrustedPermanentRoot}
use Rattle.policy.specs.declared.kinds.Rule.TheVariants.{TrustedRuntimeRoots, OwnRoot, NoIgnoreLiveness, Live}
use Rattle.model.specs.Verdict.{verdict, shown}
use Rattle.model.specs.Step.{IsNoneOrLive}
use Rattle.laws.specs.Laws.{FailsPastTheRules, MayFail, OthersShowNoRoot}

either : (v : Option Rule) → IsNoneOrLive v → (v ≡ None) ⊎ (v ≡ Some Live)
either None h = inl refl
either (Some Live) h = inr refl
either (Some Connect) h = absurd h
either (Some TrustedImport) h = absurd h
either (Some TrustedPermanentRoot) h = absurd h
either (Some TrustedRuntimeRoots) h = absurd h
either (Some OwnRoot) h = absurd h
either (Some NoIgnoreLiveness) h = absurd h

pub fails_past_the_rules : FailsPastTheRules
fails_past_the_rules s w c q f new step = either (verdict s w c q) step.0

pub may_fail : MayFail
may_fail s w c q f h = (
  elim h as (λ _. IsNoneOrLive (verdict s w c q)) [
    | inl e ↦ subst (λ (v : Option Rule). IsNoneOrLive v) (sym e) tt
    | inr e ↦ subst (λ (v : Option Rule). IsNoneOrLive v) (sym e) tt
  ],
  refl,
)

-- what a denial by another rule shows
none_shown : (s : Settings) (w : World) (c : Caller) (q : Request) (rule : Rule) → (rule ≡ Live → ⊥)
    → shown s w c q rule ≡ None
none_shown s w c q Live other = absurd (other refl)
none_shown s w c q Connect other = refl
none_shown s w c q TrustedImport other = refl
none_shown s w c q TrustedPermanentRoot other = refl
none_shown s w c q TrustedRuntimeRoots other = refl
none_shown s w c q OwnRoot other = refl
none_shown s w c q NoIgnoreLiveness other = refl

pub others_show_no_root : OthersShowNoRoot
others_show_no_root s w c q rule root new step other = step.1 ∙ none_shown s w c q rule other
