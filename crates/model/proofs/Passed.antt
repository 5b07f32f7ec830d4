-- What follows where no test fails.
use Rattle.std.proofs.Common.{◌≡◌, List, [], ◌∷◌, Bool, true, false, Some, None, Option, refl, sym, ap, ◌∙◌, IsTrue}
use Rattle.std.proofs.Common.{inl, inr}
use Rattle.std.specs.Prelude.{Contains, is_none}
use Rattle.std.specs.List.{list_all}
use Rattle.std.proofs.lemmas.Bool.{and_parts, false≢true}
use Rattle.live.proofs.Members.{cases, no_member}
use Rattle.model.specs.declared.refusal.Refusal.{Refusal}
use Rattle.model.specs.Tests.{unless, first_failing}

pub passed : (t : Option Refusal) (ts : List (Option Refusal)) → first_failing (t ∷ ts) ≡ None
    → (t ≡ None) × (first_failing ts ≡ None)
passed None ts e = (refl, e)
passed (Some r) ts e = absurd (false≢true (ap is_none e))

-- a test that passes holds
pub met : (b : Bool) (r : Refusal) → unless b r ≡ None → IsTrue b
met true r e = refl
met false r e = absurd (false≢true (ap is_none e))

-- each test passes
pub each_passed : (ts : List (Option Refusal)) → first_failing ts ≡ None → (t : Option Refusal) → Contains ts t
    → t ≡ None
each_passed [] e t c = absurd (no_member t c)
each_passed (x ∷ xs) e t c =
    let both = passed x xs e in
    elim (cases x t xs c) as (λ _. t ≡ None) [
      | inl is ↦ sym is ∙ both.0
      | inr later ↦ each_passed xs both.1 t later
    ]

-- what holds of all holds of a member
pub all_member : {X : Type 0} (f : X → Bool) (xs : List X) (x : X) → IsTrue (list_all f xs) → Contains xs x
    → IsTrue (f x)
all_member f [] x a c = absurd (no_member x c)
all_member f (y ∷ ys) x a c =
    let parts = and_parts (f y) (list_all f ys) a in
    elim (cases y x ys c) as (λ _. IsTrue (f x)) [
      | inl is ↦ ap f (sym is) ∙ parts.0
      | inr later ↦ all_member f ys x parts.1 later
    ]
