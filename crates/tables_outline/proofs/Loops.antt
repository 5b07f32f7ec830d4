-- Loops that go over a list and keep what they have seen.
use Rattle.std.proofs.Common.{◌≡◌, List, [], ◌∷◌, ◌++◌, map, refl, sym, ap, ◌∙◌, append_assoc, append-nil}

pub map-append : {A B : Type 0} (f : A → B) (xs ys : List A) → map f (xs ++ ys) ≡ map f xs ++ map f ys
map-append f [] ys = refl
map-append f (x ∷ xs) ys = ap (λ l. f x ∷ l) (map-append f xs ys)

-- one item more is seen
pub moved : {A B C : Type 0} (f : A → C) (g : B → C) (items : List A) (x : A) (y : B) (s t : List B) (all : List C)
    → f x ≡ g y → s ≡ y ∷ t
    → map f items ++ map g s ≡ all → map f (items ++ x ∷ []) ++ map g t ≡ all
moved f g items x y s t all same first before =
    ap (λ l. l ++ map g t) (map-append f items (x ∷ [])) ∙ append_assoc (map f items) (f x ∷ []) (map g t)
    ∙ ap (λ l. map f items ++ l) (ap (λ z. z ∷ map g t) same ∙ sym (ap (map g) first)) ∙ before

-- all are seen
pub ended : {A B C : Type 0} (f : A → C) (g : B → C) (items : List A) (s : List B) (all : List C) → s ≡ []
    → map f items ++ map g s ≡ all → map f items ≡ all
ended f g items s all none before =
    sym (append-nil (map f items)) ∙ ap (λ l. map f items ++ map g l) (sym none) ∙ before
