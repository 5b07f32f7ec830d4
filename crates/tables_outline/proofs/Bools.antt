-- Tests that are joined.
use Rattle.std.proofs.Common.{◌≡◌, ℕ, ◌==◌, Bool, true, false, ◌&&◌, ◌||◌, not, refl, sym, inl, inr, ◌∙◌}
use Rattle.std.proofs.lemmas.Bool.{cases_eq, eq-eqb, ne_eqb}

-- two tests of which each gives the other
pub same_tests : (a b : Bool) → (a ≡ true → b ≡ true) → (b ≡ true → a ≡ true) → a ≡ b
same_tests true b f g = sym (f refl)
same_tests false true f g = g refl
same_tests false false f g = refl

pub eqb_turned : (a b : ℕ) → (a == b) ≡ (b == a)
eqb_turned a b = elim (cases_eq a b) as (λ _. (a == b) ≡ (b == a)) [
  | inl e ↦ eq-eqb a b e ∙ sym (eq-eqb b a (sym e))
  | inr d ↦ ne_eqb a b d ∙ sym (ne_eqb b a (λ e. d (sym e)))
]

pub and_true : (a b : Bool) → (a && b) ≡ true → (a ≡ true) × (b ≡ true)
and_true true true e = (refl, refl)
and_true true false e = cc
and_true false b e = cc

pub or_nothing : (a : Bool) → (a || false) ≡ a
or_nothing true = refl
or_nothing false = refl

pub and_nothing : (a b : Bool) → b ≡ false → (a && b) ≡ false
and_nothing true b e = e
and_nothing false b e = refl

pub and_all : (a b : Bool) → b ≡ true → (a && b) ≡ a
and_all true b e = e
and_all false b e = refl

-- an `or` of more on one side
pub or_more : (l s a b : Bool) → ((l || (s && a)) || (s && b)) ≡ (l || (s && (a || b)))
or_more true s a b = refl
or_more false true a b = refl
or_more false false a b = refl

pub and_more : (l s a b : Bool) → ((l && not (s && a)) && not (s && b)) ≡ (l && not (s && (a || b)))
and_more true true true b = refl
and_more true true false b = refl
and_more true false a b = refl
and_more false s a b = refl

pub turn_and : (a b : Bool) → (a && b) ≡ (b && a)
turn_and true true = refl
turn_and true false = refl
turn_and false true = refl
turn_and false false = refl

pub and_not_more : (l a b : Bool) → ((l && not a) && not b) ≡ (l && not (a || b))
and_not_more true true b = refl
and_not_more true false b = refl
and_not_more false a b = refl
