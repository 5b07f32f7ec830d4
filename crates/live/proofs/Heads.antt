-- Texts are ordered as the numbers that their first bytes are, where these differ.
use Rattle.std.proofs.Common.{◌≡◌, ℕ, zero, suc, ◌+◌, ◌*◌, ◌^◌, ◌<◌, ◌≤◌, List, [], ◌∷◌, refl, ap, ◌∙◌, inl, inr, ◌⊎◌}
use Rattle.std.proofs.Common.{arith}
use Rattle.std.specs.List.{slice_index}
use Rattle.std.specs.declared.cmp.Ordering.{Ordering}
use Rattle.std.specs.declared.cmp.Ordering.TheVariants.{Less, Greater}
use Rattle.std.specs.Ordering.{nat_cmp, ordering_then, ordering_reverse}
use Rattle.std.specs.Cmp.Lexicographic.{nat_list_cmp_total}
use Rattle.std.proofs.Math.Nat.{pow-suc, mul-le-mul_left}
use Rattle.paths.specs.Root.{bytes_cmp}
use Rattle.live.specs.Heads.{digits_from, head_of, IsBytes}

-- after the first byte
digits_after : (n k x : ℕ) (xs : List ℕ) → digits_from n (suc k) (x ∷ xs) ≡ digits_from n k xs
digits_after zero k x xs = refl
digits_after (suc n) k x xs = ap (λ d. slice_index xs k * 256 ^ n + d) (digits_after n (suc k) x xs)

no_digits : (n k : ℕ) → digits_from n k [] ≡ 0
no_digits zero k = refl
no_digits (suc n) k = let rest = no_digits n (suc k) in omega (arith, rest)

small : (n k : ℕ) (xs : List ℕ) → IsBytes xs → digits_from n k xs < 256 ^ n
small zero k xs b = omega arith
small (suc n) k xs b =
    let rest = small n (suc k) xs b in
    let top : slice_index xs k + 1 ≤ 256 = (let c = b k in omega arith) in
    let most = mul-le-mul_left (256 ^ n) top in
    let power = pow-suc 256 n in
    omega (arith, rest, most, power)

less_first : (x y : ℕ) (o : Ordering) → x < y → ordering_then (nat_cmp x y) o ≡ Less
less_first x y o h = grind arith

same_first : (x y : ℕ) (o : Ordering) → x ≡ y → o ≡ Less → ordering_then (nat_cmp x y) o ≡ Less
same_first x y o e h = grind arith

-- a number of digits that is less, by its first digit or by those after it
order : (x y : ℕ) → (x < y) ⊎ ((x ≡ y) ⊎ (y < x))
order x y = grind arith

by_digits : (n : ℕ) (xs ys : List ℕ) → IsBytes xs → IsBytes ys → digits_from n 0 xs < digits_from n 0 ys
    → bytes_cmp xs ys ≡ Less
by_digits zero xs ys b c h = absurd (omega arith)
by_digits (suc n) [] [] b c h = absurd (omega arith)
by_digits (suc n) [] (y ∷ ys) b c h = refl
by_digits (suc n) (x ∷ xs) [] b c h = absurd (let e = no_digits (suc n) 0 in omega (arith, e, h))
by_digits (suc n) (x ∷ xs) (y ∷ ys) b c h =
    let behind_x = digits_after n 0 x xs in
    let behind_y = digits_after n 0 y ys in
    elim (order x y) as (λ _. ordering_then (nat_cmp x y) (bytes_cmp xs ys) ≡ Less) [
      | inl lt ↦ less_first x y (bytes_cmp xs ys) lt
      | inr (inl same) ↦
          let top = ap (λ z. z * 256 ^ n) same in
          same_first x y (bytes_cmp xs ys) same
          (by_digits n xs ys (λ k. b (suc k)) (λ k. c (suc k)) (omega (arith, h, behind_x, behind_y, top)))
      | inr (inr gt) ↦
          let below = small n 0 ys (λ k. c (suc k)) in
          let more : y + 1 ≤ x = omega arith in
          let most = mul-le-mul_left (256 ^ n) more in
          absurd (omega (arith, h, behind_x, behind_y, below, most))
    ]

pub less_by_head : (xs ys : List ℕ) → IsBytes xs → IsBytes ys → head_of xs < head_of ys → bytes_cmp xs ys ≡ Less
less_by_head xs ys b c h = by_digits 8 xs ys b c h

pub greater_by_head : (xs ys : List ℕ) → IsBytes xs → IsBytes ys → head_of ys < head_of xs → bytes_cmp xs ys ≡ Greater
greater_by_head xs ys b c h = nat_list_cmp_total.antisymm xs ys ∙ ap ordering_reverse (by_digits 8 ys xs c b h)
