-- What the place of a path among rows says.
use Rattle.std.proofs.Common.{◌≡◌, ℕ, zero, suc, ◌+◌, ◌<◌, ◌≤◌, Bool, false, cond, List, [], ◌∷◌, ◌++◌, length, get_or}
use Rattle.std.proofs.Common.{take, Option, None, Some, refl, subst, sym, ap, ◌∙◌, arith}
use Rattle.std.specs.Prelude.{IfNone, IfSome, filter}
use Rattle.std.specs.List.{position}
use Rattle.std.proofs.lemmas.Grind.{common_steps}
use Rattle.std.proofs.lemmas.List.{length-map, take_all}
use Rattle.std.proofs.lemmas.List.Elements.{filter_more}
use Rattle.std.proofs.lemmas.List.Sums.{fails_before_first}
use Rattle.live.specs.Graph.{Path, same}
use Rattle.live.specs.Arguments.{row_view, rows_view}
use Rattle.live.specs.Numbering.{Rise, Row as NumberedRow, path_at, paths_of, place_of}
use Rattle.live.specs.declared.numbered.rows.Row.{Row}
use Rattle.live.proofs.Numberings.{at_place}

module _ {X : Type 0} (p : X → Bool) (xs : List X) (d : X)
    (fails : (k : ℕ) → k < length xs → p (get_or xs k d) ≡ false) where
  none_of_first : (n : ℕ) → n ≤ length xs → filter p (take n xs) ≡ []
  none_of_first zero h = refl
  none_of_first (suc n) h =
      let one : n + 1 ≡ suc n = omega arith in
      subst (λ (k : ℕ). filter p (take k xs) ≡ []) one
      (filter_more p xs n d (omega arith)
      ∙ (λ j. none_of_first n (omega arith) j ++ cond (fails n (omega arith) j) (get_or xs n d ∷ []) []))

  none_of_all : filter p xs ≡ []
  none_of_all = ap (filter p) (sym (take_all (length xs) xs (omega arith))) ∙ none_of_first (length xs) (omega arith)

no_position : {X : Type 0} (p : X → Bool) (xs : List X) (d : X) → position p xs ≡ None → filter p xs ≡ []
no_position p xs d none = none_of_all p xs d (λ k h. fails_before_first p xs k d (grind (arith, common_steps)))

module _ (rows : List Row) (rise : Rise (paths_of (rows_view rows))) (p : Path) where
  pub placed : (o : Option ℕ) → o ≡ place_of (paths_of (rows_view rows)) p
      → IfSome o (λ i. (i < length rows) × (path_at (rows_view rows) i ≡ p))
  placed None is = tt
  placed (Some i) is =
      let at = at_place (paths_of (rows_view rows)) rise p i (sym is) in
      let count = length-map (rows_view rows) (λ (r : NumberedRow). r.0) ∙ length-map rows row_view in
      (omega (arith, at.0, count), at.1)

  pub not_placed : (o : Option ℕ) → o ≡ place_of (paths_of (rows_view rows)) p
      → IfNone o (filter (same p) (paths_of (rows_view rows)) ≡ [])
  not_placed None is = no_position (same p) (paths_of (rows_view rows)) [] (sym is)
  not_placed (Some i) is = tt
