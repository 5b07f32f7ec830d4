-- Texts put together of parts.
use Rattle.std.proofs.Common.{◌≡◌, ◌≤◌, ℕ, List, [], ◌∷◌, ◌++◌, drop, take, length, ◌-◌, get_or, ap, sym, ◌∙◌, arith}
use Rattle.std.specs.List.{flat_map, join_with_byte}
use Rattle.std.proofs.lemmas.List.{append-nil}
use Rattle.std.proofs.lemmas.List.{take_all}

-- one part more
pub with : (t u a b : List ℕ) → t ≡ u ++ a → u ≡ b → t ≡ b ++ a
with t u a b e f = e ∙ ap (λ v. v ++ a) f

-- a space between: the first, and each further one after a space
pub joined : (x : List ℕ) (xs : List (List ℕ)) → join_with_byte 32 (x ∷ xs) ≡ x ++ flat_map (λ p. 32 ∷ p) xs
joined x [] = sym (append-nil x)
joined x (y ∷ ys) = ap (λ v. x ++ (32 ∷ v)) (joined y ys)

pub joined_parts : (x : List ℕ) (xs : List (List ℕ)) → 1 ≤ length xs → x ≡ get_or xs 0 x
    → join_with_byte 32 xs ≡ x ++ flat_map (λ p. 32 ∷ p) (take (length xs - 1) (drop 1 xs))
joined_parts x [] h e = absurd (omega arith)
joined_parts x (y ∷ ys) h e =
    let long : length ys ≤ length (y ∷ ys) - 1 = omega arith in
    joined y ys
    ∙ ap (λ v. v ++ flat_map (λ p. 32 ∷ p) ys) (sym e)
    ∙ ap (λ v. x ++ flat_map (λ p. 32 ∷ p) v) (sym (take_all (length (y ∷ ys) - 1) ys long))
