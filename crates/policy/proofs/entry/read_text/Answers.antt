use Rattle.std.specs.Str.{bytes_eq}
use Rattle.paths.specs.Names.{is_plain_name}
use Rattle.std.proofs.Common.{◌≡◌, ◌≢◌, ℕ, List, [], ◌∷◌, false, ◌==◌, slice_index, ap, inl, inr, codes, lit<, refl}
use Rattle.std.proofs.lemmas.Bool.{cases_Bool}
use Rattle.std.proofs.lemmas.Bool.Decides.{Decides-eqb}
use Rattle.std.proofs.lemmas.Str.Pattern.{strip_prefix_char}
use Rattle.policy.proofs.entry.read_text.Goals as goal

first_is_other : (bs : List ℕ) → ((rest : List ℕ) → bs ≢ 64 ∷ rest) → (slice_index bs 0 == 64) ≡ false
first_is_other [] other = refl
first_is_other (b ∷ bs) other =
    elim (cases_Bool (b == 64)) [
      | inl same ↦ absurd (other bs (ap (λ x. x ∷ bs) ((Decides-eqb b 64).0 same)))
      | inr differs ↦ differs
    ]

pub returns-else-is_plain_name-2 : goal.returns-else-is_plain_name-2
returns-else-is_plain_name-2 c =
    let bs = c.args.text.now in
    let none = strip_prefix_char 64 bs c.strip_prefix.result c.strip_prefix.ensures.cases (lit< tt) in
    let other = first_is_other bs (rw c.in-None.is at none) in
    let star : bytes_eq bs (codes "*") ≡ false = cc in
    let plain : is_plain_name bs ≡ false = cc in
    rw (star, other, plain)
