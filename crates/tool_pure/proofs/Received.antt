-- What came of an input that was read to a bound.
use Rattle.std.proofs.Common.{◌≡◌, ℕ, ◌<◌, ◌≤◌, ◌++◌, List, length, take, Option, Some, None, ap, sym, ◌∙◌, arith, inl}
use Rattle.std.proofs.Common.{inr, append-nil, take_all}
use Rattle.std.specs.Prelude.{IfSome}
use Rattle.std.specs.Io.KnownBytes.{Consumes, IsAtEnd}
use Rattle.std.proofs.lemmas.Bool.{cases_lt}
use Rattle.std.proofs.lemmas.List.{take-append-le}

-- what came is a prefix of the input, up to the bound
pub prefix_received : (most : ℕ) (old new : Option (List ℕ)) (bs taken : List ℕ) (n : ℕ) → Consumes old new bs
    → length bs ≤ most → n ≡ length bs → taken ≡ bs
    → (n < most → IsAtEnd new) → IfSome old (λ all. taken ≡ take most all)
prefix_received most None new bs taken n read short count is end = tt
prefix_received most (Some all) None bs taken n read short count is end = absurd read
prefix_received most (Some all) (Some rest) bs taken n read short count is end =
    elim (cases_lt n most) [
      | inl less ↦
          let whole : all ≡ bs = read ∙ ap (λ t. bs ++ t) (end less) ∙ append-nil bs in
          is ∙ sym (ap (take most) whole ∙ take_all most bs short)
      | inr full ↦
          let reach : most ≤ length bs = omega (arith, count, full) in
          is ∙ sym (ap (take most) read ∙ take-append-le most bs rest reach ∙ take_all most bs short)
    ]

-- what came is all of the input, after what was there before
pub all_received : (old new : Option (List ℕ)) (bs held taken : List ℕ) → Consumes old new bs → IsAtEnd new
    → taken ≡ held ++ bs
    → IfSome old (λ all. taken ≡ held ++ all)
all_received None new bs held taken read end is = tt
all_received (Some all) None bs held taken read end is = absurd read
all_received (Some all) (Some rest) bs held taken read end is =
    let whole : all ≡ bs = read ∙ ap (λ t. bs ++ t) end ∙ append-nil bs in
    is ∙ ap (λ t. held ++ t) (sym whole)
