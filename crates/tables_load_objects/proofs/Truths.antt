-- Truth values.
use Rattle.std.proofs.Common.{◌≡◌, Bool, true, false, ◌&&◌, refl, ap, ◌∙◌, T}
use Rattle.std.proofs.lemmas.Bool.{false≢true}

pub both_so : (a b : Bool) → (a && b) ≡ true → (a ≡ true) × (b ≡ true)
both_so true b h = (refl, h)
both_so false b h = absurd (false≢true h)

pub and_so : (a b : Bool) → a ≡ true → b ≡ true → (a && b) ≡ true
and_so a b h k = ap (λ x. x && b) h ∙ k

pub to_true : (b : Bool) → T b → b ≡ true
to_true true h = refl
to_true false h = absurd h
