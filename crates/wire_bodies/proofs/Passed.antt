-- Faults that are passed on.
use Rattle.std.proofs.Common.{◌≡◌, Option, None, Result, Ok, Err, IsErrAnd, refl, sym, ap, subst, ◌∙◌}
use Rattle.wire_bodies.specs.declared.error.BodyError.{BodyError}
use Rattle.wire_bodies.specs.declared.error.BodyError.TheVariants.{BadBodyHead, Memory}
use Rattle.wire_bodies.specs.Values.{Answers}

-- a fault that is passed on as it is
pub same_fault : {A B : Type 0} (r : Result A BodyError) (s : Result B BodyError) (e f : BodyError)
    → IsErrAnd s (λ d. d ≡ e) → r ≡ Err e → s ≡ Err f → r ≡ Err f
same_fault r (Ok y) e f is was same = absurd is
same_fault r (Err d) e f is was same = let passed : d ≡ f = cc in was ∙ ap (λ t. Err t) (sym is ∙ passed)

-- nothing is there, where the fault that is passed on is a bad head
pub answers_nothing : {C D : Type 0} (view : C → D) (present : Option D) (e : BodyError) (s : Result C BodyError)
    → IsErrAnd s (λ d. d ≡ e)
    → (e ≡ BadBodyHead → present ≡ None) → Answers view present s
answers_nothing view present e (Ok y) is none = absurd is
answers_nothing view present e (Err d) is none = subst (λ f. Answers view present (Err f)) (sym is) (by e none)
  where
    by : (f : BodyError) → (f ≡ BadBodyHead → present ≡ None) → Answers view present (Err f)
    by BadBodyHead none = none refl
    by Memory none = tt
