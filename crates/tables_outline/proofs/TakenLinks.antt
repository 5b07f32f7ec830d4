-- The items of a list that a loop has gone over.
use Rattle.std.proofs.Common.{◌≡◌, ℕ, suc, ◌+◌, ◌<◌, ◌≤◌, List, [], ◌∷◌, ◌++◌, length, get_or, take, drop, drop-cons}
use Rattle.std.proofs.Common.{refl, sym, ap, ap₂, ◌∙◌, arith}
use Rattle.std.proofs.lemmas.List as lists

pub take_item : {X : Type 0} (xs : List X) (i : ℕ) (x : X) → i < length xs → x ≡ get_or xs i x
    → take (i + 1) xs ≡ take i xs ++ x ∷ []
take_item xs i x l is = lists.take_more xs i x l ∙ ap (λ y. take i xs ++ y ∷ []) (sym is)

pub take_all : {X : Type 0} (xs : List X) (i : ℕ) → length xs ≤ i → take i xs ≡ xs
take_all xs i past = lists.take_all i xs past

-- ---- what is left

pub left_at : {X : Type 0} (xs : List X) (i : ℕ) (x : X) → i < length xs → x ≡ get_or xs i x
    → drop i xs ≡ x ∷ drop (i + 1) xs
left_at xs i x h is =
    let next : suc i ≡ i + 1 = omega arith in
    drop-cons xs i x h ∙ ap₂ (λ y n. y ∷ drop n xs) (sym is) next

pub none_left : {X : Type 0} (xs : List X) → drop (length xs) xs ≡ []
none_left [] = refl
none_left (x ∷ xs) = none_left xs
