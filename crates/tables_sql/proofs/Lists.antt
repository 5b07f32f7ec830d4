-- Two lists as one, one more at the end of a list, and what is left of a list.
use Rattle.std.proofs.Common.{◌≡◌, ◌<◌, ◌+◌, ◌-◌, inl, inr, ℕ, suc, drop, List, [], ◌∷◌, ◌++◌, length, length-append}
use Rattle.std.proofs.Common.{get_or, Some, sym, ap, subst₂, ◌∙◌, arith}
use Rattle.std.specs.Prelude.{slice_get}
use Rattle.std.specs.List.{AllByRecursion, AllAdjacentBelow}
use Rattle.std.proofs.Math.ListN.{get_or-append}
use Rattle.std.proofs.Math.Seq.{get_or-append_seam, drop-cons}
use Rattle.std.proofs.lemmas.Option.{slice_get-get_or, slice_get_within, get_or_from_slice_get}
use Rattle.std.proofs.Math.Nat.{eq-or-lt_of_le}

pub one_list : {X : Type 0} (P : X → Type 0) (xs ys : List X) → AllByRecursion P (xs ++ ys)
    → AllByRecursion P xs × AllByRecursion P ys
one_list P [] ys h = (tt, h)
one_list P (x ∷ xs) ys h = let both = one_list P xs ys h.1 in ((h.0, both.0), both.1)

pub two_lists : {X : Type 0} (P : X → Type 0) (xs ys : List X) → AllByRecursion P xs → AllByRecursion P ys
    → AllByRecursion P (xs ++ ys)
two_lists P [] ys h k = k
two_lists P (x ∷ xs) ys h k = (h.0, two_lists P xs ys h.1 k)

-- what is left of a list begins with the next
pub one_left : {X : Type 0} (xs : List X) (n : ℕ) (d : X) → n < length xs → drop n xs ≡ get_or xs n d ∷ drop (n + 1) xs
one_left xs n d low = let next : suc n ≡ n + 1 =
    omega arith in drop-cons xs n d low ∙ ap (λ k. get_or xs n d ∷ drop k xs) next

-- ---- one more at the end of a list, in which each element is so next to the next

module _ {X : Type 0} (R : X → X → Type 0) (xs : List X) (y : X) where
  pub more_adjacent : AllAdjacentBelow R xs (length xs) → ((x : X) → slice_get xs (length xs - 1) ≡ Some x → R x y)
      → AllAdjacentBelow R (xs ++ y ∷ []) (length (xs ++ y ∷ []))
  more_adjacent h last k d low =
      let long = length-append xs (y ∷ []) in
      let within : k < length xs = omega (arith, long, low) in
      let here : get_or (xs ++ y ∷ []) k d ≡ get_or xs k d = get_or-append xs (y ∷ []) d k within in
      elim (eq-or-lt_of_le {n = k + 1} {m = length xs} (omega (arith, within))) [
        | inl end ↦
            let next : get_or (xs ++ y ∷ []) (k + 1) d ≡ y =
            ap (λ n. get_or (xs ++ y ∷ []) n d) end ∙ get_or-append_seam xs y [] d in
            let is : slice_get xs (length xs - 1) ≡ Some (get_or xs k d) =
            ap (λ n. slice_get xs n) (omega (arith, end)) ∙ slice_get-get_or xs k d within in
            subst₂ R (sym here) (sym next) (last (get_or xs k d) is)
        | inr more ↦ subst₂ R (sym here) (sym (get_or-append xs (y ∷ []) d (k + 1) more)) (h k d more)
      ]

  -- so of the last of a list and one more, if it is so of the longer list
  pub adjacent_last : AllAdjacentBelow R (xs ++ y ∷ []) (length (xs ++ y ∷ [])) → (x : X)
      → slice_get xs (length xs - 1) ≡ Some x → R x y
  adjacent_last h x is =
      let k = length xs - 1 in
      let some = slice_get_within xs k x is in
      let next : get_or (xs ++ y ∷ []) (k + 1) x ≡ y =
      ap (λ n. get_or (xs ++ y ∷ []) n x) (omega (arith, some)) ∙ get_or-append_seam xs y [] x in
      let here : get_or (xs ++ y ∷ []) k x ≡ x =
      get_or-append xs (y ∷ []) x k (omega (arith, some)) ∙ get_or_from_slice_get xs k x x is in
      subst₂ R here next (h k x (omega (arith, length-append xs (y ∷ []), some)))
