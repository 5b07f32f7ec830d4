-- The verdict on a request, by the rules other than `Live` and by the world.
use Rattle.std.proofs.Common.{◌≡◌, Bool, true, false, cond, not, ◌&&◌, is_some, Some, None, Option, refl, sym, ap, ap₂}
use Rattle.std.proofs.Common.{◌∙◌}
use Rattle.std.specs.List.{list_any}
use Rattle.std.proofs.lemmas.Bool.{false≢true}
use Rattle.std.proofs.lemmas.Option.{same_Some}
use Rattle.policy.specs.Settings.{Settings}
use Rattle.policy.specs.Caller.{Caller}
use Rattle.policy.specs.Class.{class_of}
use Rattle.policy.specs.Rules as rules
use Rattle.policy.specs.Operation.{deletes}
use Rattle.policy.specs.Rules.{allows, first_broken}
use Rattle.policy.specs.declared.kinds.Rule.{Rule}
use Rattle.policy.specs.declared.kinds.Rule.TheVariants.{Connect, TrustedImport, TrustedPermanentRoot}
use Rattle.policy.specs.declared.kinds.Rule.TheVariants.{TrustedRuntimeRoots, OwnRoot, NoIgnoreLiveness, Live}
use Rattle.model.specs.World.{Pair, World}
use Rattle.model.specs.Request.{Request, delete}
use Rattle.model.specs.Liveness.{lives}
use Rattle.model.specs.Step.{IsNoneOrLive}
use Rattle.model.specs.Verdict.{operation_of, named_in, verdict, shown}

-- the first of the rules that is broken
chain : (a b c d e f l : Bool) → Option Rule
chain a b c d e f l =
    cond a (Some Connect) (cond b (Some TrustedImport)
    (cond c (Some TrustedPermanentRoot) (cond d (Some TrustedRuntimeRoots)
    (cond e (Some OwnRoot) (cond f (Some NoIgnoreLiveness) (cond l (Some Live) None))))))

-- a rule that is broken where no path lives is so where one does, and nothing is shown for it
stays : (show : Rule → Option Pair) → show Connect ≡ None → show TrustedImport ≡ None → show TrustedPermanentRoot ≡ None
    → show TrustedRuntimeRoots ≡ None
    → show OwnRoot ≡ None → show NoIgnoreLiveness ≡ None
    → (a b c d e f l : Bool) (rule : Rule) → chain a b c d e f false ≡ Some rule
    → (chain a b c d e f l ≡ Some rule) × (None ≡ show rule)
unfolding chain
stays show n1 n2 n3 n4 n5 n6 true b c d e f l rule h = (h, sym (ap show (sym (same_Some Connect rule h)) ∙ n1))
stays show n1 n2 n3 n4 n5 n6 false true c d e f l rule h =
    (h, sym (ap show (sym (same_Some TrustedImport rule h)) ∙ n2))
stays show n1 n2 n3 n4 n5 n6 false false true d e f l rule h =
    (h, sym (ap show (sym (same_Some TrustedPermanentRoot rule h)) ∙ n3))
stays show n1 n2 n3 n4 n5 n6 false false false true e f l rule h =
    (h, sym (ap show (sym (same_Some TrustedRuntimeRoots rule h)) ∙ n4))
stays show n1 n2 n3 n4 n5 n6 false false false false true f l rule h =
    (h, sym (ap show (sym (same_Some OwnRoot rule h)) ∙ n5))
stays show n1 n2 n3 n4 n5 n6 false false false false false true l rule h =
    (h, sym (ap show (sym (same_Some NoIgnoreLiveness rule h)) ∙ n6))
stays show n1 n2 n3 n4 n5 n6 false false false false false false l rule h = absurd cc

-- where no other rule is broken, that on live paths is the verdict
comes_last : (a b c d e f : Bool) → chain a b c d e f false ≡ None → (l : Bool) → l ≡ true
    → chain a b c d e f l ≡ Some Live
unfolding chain
comes_last true b c d e f h l is = absurd (false≢true (sym (ap is_some h)))
comes_last false true c d e f h l is = absurd (false≢true (sym (ap is_some h)))
comes_last false false true d e f h l is = absurd (false≢true (sym (ap is_some h)))
comes_last false false false true e f h l is = absurd (false≢true (sym (ap is_some h)))
comes_last false false false false true f h l is = absurd (false≢true (sym (ap is_some h)))
comes_last false false false false false true h l is = absurd (false≢true (sym (ap is_some h)))
comes_last false false false false false false h l is = ap (λ b. cond b (Some Live) None) is

-- or none is
is_last : (a b c d e f : Bool) → chain a b c d e f false ≡ None → (l : Bool) → IsNoneOrLive (chain a b c d e f l)
unfolding chain
is_last true b c d e f h l = absurd (false≢true (sym (ap is_some h)))
is_last false true c d e f h l = absurd (false≢true (sym (ap is_some h)))
is_last false false true d e f h l = absurd (false≢true (sym (ap is_some h)))
is_last false false false true e f h l = absurd (false≢true (sym (ap is_some h)))
is_last false false false false true f h l = absurd (false≢true (sym (ap is_some h)))
is_last false false false false false true h l = absurd (false≢true (sym (ap is_some h)))
is_last false false false false false false h true = tt
is_last false false false false false false h false = tt

-- only a deletion names paths
names_to_delete : (s : Settings) (w : World) (q : Request) → list_any (lives s w) (named_in q) ≡ true
    → deletes (operation_of q) ≡ true
names_to_delete s w (delete named ignores) h = refl
names_to_delete s w _ h = absurd (false≢true h)

module _ (s : Settings) (w : World) (c : Caller) (q : Request) where
  broken : Rule → Bool → Bool
  broken rule names_live = not (allows (class_of s c) c (operation_of q) names_live rule)

  some_lives : Bool
  some_lives = list_any (lives s w) (named_in q)

  -- a rule other than `Live` forbids it
  pub denied_by : (rule : Rule) → first_broken (class_of s c) c (operation_of q) ≡ Some rule
      → (verdict s w c q ≡ Some rule) × (None ≡ shown s w c q rule)
  unfolding chain broken some_lives
  denied_by rule h = stays (shown s w c q) refl refl refl refl refl refl
      (broken Connect false) (broken TrustedImport false) (broken TrustedPermanentRoot false)
      (broken TrustedRuntimeRoots false) (broken OwnRoot false) (broken NoIgnoreLiveness false)
      (broken Live some_lives) rule h

  -- none does, and what is deleted by name is dead
  pub permitted : first_broken (class_of s c) c (operation_of q) ≡ None → list_any (lives s w) (named_in q) ≡ false
      → verdict s w c q ≡ None
  permitted h dead = ap (λ (b : Bool). rules.verdict (class_of s c) c (operation_of q) b) dead ∙ h

  -- none does, and a path that is deleted by name lives
  pub denied_live : first_broken (class_of s c) c (operation_of q) ≡ None → list_any (lives s w) (named_in q) ≡ true
      → verdict s w c q ≡ Some Live
  unfolding chain broken some_lives
  denied_live h alive = comes_last
      (broken Connect false) (broken TrustedImport false) (broken TrustedPermanentRoot false)
      (broken TrustedRuntimeRoots false) (broken OwnRoot false) (broken NoIgnoreLiveness false) h
      (broken Live some_lives) (ap₂ (λ a b. not (not (a && b))) alive (names_to_delete s w q alive))

  pub none_or_live : first_broken (class_of s c) c (operation_of q) ≡ None → IsNoneOrLive (verdict s w c q)
  unfolding chain broken some_lives
  none_or_live h = is_last
      (broken Connect false) (broken TrustedImport false) (broken TrustedPermanentRoot false)
      (broken TrustedRuntimeRoots false) (broken OwnRoot false) (broken NoIgnoreLiveness false) h
      (broken Live some_lives)
