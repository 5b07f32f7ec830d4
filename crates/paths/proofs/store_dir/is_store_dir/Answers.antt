use Rattle.std.proofs.Common.{◌≡◌, ◌≢◌, ℕ, List, [], ◌∷◌, false, ◌==◌, slice_index, ap, inl, inr, lit<, refl, arith}
use Rattle.std.proofs.lemmas.Bool.{cases_Bool}
use Rattle.std.proofs.lemmas.Bool.Decides.{nat_tests, Decides-eqb}
use Rattle.std.proofs.lemmas.Str.Pattern.{strip_prefix_char}
use Rattle.paths.proofs.store_dir.is_store_dir.Goals as goal

-- a text that begins with no `/` has another first byte
first_is_other : (bs : List ℕ) → ((rest : List ℕ) → bs ≢ 47 ∷ rest) → (slice_index bs 0 == 47) ≡ false
first_is_other [] other = refl
first_is_other (b ∷ bs) other =
    elim (cases_Bool (b == 47)) [
      | inl same ↦ absurd (other bs (ap (λ x. x ∷ bs) ((Decides-eqb b 47).0 same)))
      | inr differs ↦ differs
    ]

pub returns-in-None : goal.returns-in-None
returns-in-None c =
    let bs = c.args.text.now in
    let none = strip_prefix_char 47 bs c.strip_prefix.result c.strip_prefix.ensures.cases (lit< tt) in
    let other = first_is_other bs (rw c.in-None.is at none) in
    grind (arith, nat_tests)
