-- What is left of lists, from some place on.
use Rattle.std.proofs.Common.{◌≡◌, ℕ, zero, suc, ◌+◌, ◌<◌, List, [], ◌∷◌, map, length, get_or, drop, drop-cons, arith}
use Rattle.std.proofs.Common.{refl, sym, ap, ap₂, ◌∙◌}
use Rattle.std.proofs.Common.{String, Global, string_bytes}
use Rattle.std.specs.List.{zip}
use Rattle.std.specs.FinMap as finite
use Rattle.tables_outline.proofs.Ordered.{mapped_length}
use Rattle.paths.specs.Root.{bytes_cmp}
use Rattle.model.specs.World.{Path}

-- it begins with the item at this place
pub left_at : {A : Type 0} (xs : List A) (i : ℕ) (x : A) → i < length xs → x ≡ get_or xs i x
    → drop i xs ≡ x ∷ drop (i + 1) xs
left_at xs i x h is =
    let next : suc i ≡ i + 1 = omega arith in
    drop-cons xs i x h ∙ ap₂ (λ y n. y ∷ drop n xs) (sym is) next

zip_from : {A B C : Type 0} (f : A → C) (xs : List A) (ys : List B) (i : ℕ) (x : A) (y : B) → i < length xs
    → i < length ys → x ≡ get_or xs i x → y ≡ get_or ys i y
    → drop i (zip (map f xs) ys) ≡ (f x, y) ∷ drop (suc i) (zip (map f xs) ys)
zip_from f [] ys i x y h k a b = absurd (omega (arith, h))
zip_from f (u ∷ xs) [] i x y h k a b = absurd (omega (arith, k))
zip_from f (u ∷ xs) (v ∷ ys) zero x y h k a b = ap₂ (λ p q. (f p, q) ∷ zip (map f xs) ys) (sym a) (sym b)
zip_from f (u ∷ xs) (v ∷ ys) (suc i) x y h k a b =
    let h' : i < length xs = omega (arith, h) in
    let k' : i < length ys = omega (arith, k) in
    zip_from f xs ys i x y h' k' a b

-- and so it does in a list of pairs
pub zip_at : {A B C : Type 0} (f : A → C) (xs : List A) (ys : List B) (i : ℕ) (x : A) (y : B) → i < length xs
    → i < length ys → x ≡ get_or xs i x → y ≡ get_or ys i y
    → drop i (zip (map f xs) ys) ≡ (f x, y) ∷ drop (i + 1) (zip (map f xs) ys)
zip_at f xs ys i x y h k a b =
    let next : suc i ≡ i + 1 = omega arith in
    zip_from f xs ys i x y h k a b ∙ ap (λ n. (f x, y) ∷ drop n (zip (map f xs) ys)) next

-- nothing is left after the end
pub none_left : {A : Type 0} (xs : List A) → drop (length xs) xs ≡ []
none_left [] = refl
none_left (x ∷ xs) = none_left xs

pub no_pairs_left : {A B C : Type 0} (f : A → C) (xs : List A) (ys : List B) → length ys ≡ length xs
    → drop (length xs) (zip (map f xs) ys) ≡ []
no_pairs_left f [] ys h = refl
no_pairs_left f (x ∷ xs) [] h = absurd (omega (arith, h))
no_pairs_left f (x ∷ xs) (y ∷ ys) h = let h' : length ys ≡ length xs = omega (arith, h) in no_pairs_left f xs ys h'

-- ---- the entries of a map, as keys and values

pub zipped : {K X : Type 0} (es : List (K × X)) → zip (map (λ e. e.0) es) (map (λ e. e.1) es) ≡ es
zipped [] = refl
zipped (e ∷ es) = ap (λ l. e ∷ l) (zipped es)

-- as many values as names
pub keys_count : (m : finite.FinMap bytes_cmp Path) (names : List (String Global)) (paths : List Path)
    → map string_bytes names ≡ finite.keys m → paths ≡ finite.values m → length paths ≡ length names
keys_count m names paths k v =
    ap length v ∙ mapped_length (λ (e : Path × Path). e.1) (finite.entries m)
    ∙ sym (mapped_length (λ (e : Path × Path). e.0) (finite.entries m)) ∙ ap length (sym k)
    ∙ mapped_length string_bytes names
