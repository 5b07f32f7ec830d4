-- The search for a path among rows that rise.
use Rattle.std.proofs.Common.{◌≡◌, ℕ, ◌+◌, ◌<◌, ◌≤◌, false, cond, List, [], ◌∷◌, length, get_or, Some, None, refl, sym}
use Rattle.std.proofs.Common.{ap, ◌∙◌, inl, inr, arith}
use Rattle.std.specs.Prelude.{nat_lt}
use Rattle.std.specs.List.{AllWithin}
use Rattle.std.specs.List.Sorted.{IsNonDecreasingBy}
use Rattle.std.specs.Ordering.{is_lt, ordering_index, ordering_reverse}
use Rattle.std.specs.Cmp.{tied_itself}
use Rattle.std.specs.Cmp.Lexicographic.{nat_list_cmp_total}
use Rattle.std.specs.declared.cmp.Ordering.{Ordering}
use Rattle.std.specs.declared.cmp.Ordering.TheVariants.{Less, Equal, Greater}
use Rattle.std.specs.FinMap as finite
use Rattle.std.proofs.lemmas.Bool.{cases_lt, le-ltb, false_from_ne_true}
use Rattle.std.proofs.lemmas.List.{length-map, get_or-map, get_or_default}
use Rattle.std.proofs.lemmas.List.Sorted.{searchable_from_sorted}
use Rattle.std.proofs.lemmas.List.Sums.{position_or_len_is}
use Rattle.paths.specs.Root.{bytes_cmp}
use Rattle.live.specs.Graph.{Path, same}
use Rattle.live.specs.Numbering.{Row as NumberedRow, paths_of, place_of, Rise}
use Rattle.live.specs.Arguments.{row_view, rows_view}
use Rattle.live.specs.declared.numbered.rows.Row.{Row}
use Rattle.live.proofs.Numberings.{no_row, place_at}
use Rattle.live.proofs.Reach.{same_is}
use Rattle.live.specs.Searched.{IsSearched}
use Rattle.live.specs.Heads.{AreHeads, IsBytes, head_of}
use Rattle.live.proofs.Heads.{less_by_head, greater_by_head}
use Rattle.std.specs.List.{slice_index}

-- some row of a list that has one
pub some_row : (rows : List Row) (i : ℕ) → i < length rows → Row
some_row [] i h = absurd (omega arith)
some_row (r ∷ rows) i h = r

module _ (rows : List Row) (rise : Rise (paths_of (rows_view rows))) where
  pub count : length (paths_of (rows_view rows)) ≡ length rows
  count = length-map (rows_view rows) (λ (r : NumberedRow). r.0) ∙ length-map rows row_view

  pub path_is : (k : ℕ) (d : Row) → k < length rows
      → get_or (paths_of (rows_view rows)) k [] ≡ (get_or rows k d).path.now
  path_is k d h =
      get_or-map (λ (r : NumberedRow). r.0) (rows_view rows) k no_row []
      (let n = length-map rows row_view in omega arith)
      ∙ ap (λ (r : NumberedRow). r.0) (get_or-map row_view rows k d no_row h)

  up : (k : ℕ) (d : Row) → 0 ≤ k → k + 1 < length rows
      → is_lt (bytes_cmp (get_or rows (k + 1) d).path.now (get_or rows k d).path.now) ≡ false
  up k d z h =
      let a = path_is k d (omega arith) in
      let b = path_is (k + 1) d h in
      let r = rise k (k + 1) [] (omega arith) (omega (arith, count)) in
      let e =
      nat_list_cmp_total.antisymm (get_or (paths_of (rows_view rows)) (k + 1) [])
      (get_or (paths_of (rows_view rows)) k []) in
      ap is_lt (ap (λ p. bytes_cmp p (get_or rows k d).path.now) (sym b)
      ∙ ap (bytes_cmp (get_or (paths_of (rows_view rows)) (k + 1) [])) (sym a) ∙ e ∙ ap ordering_reverse r)

  pub searchable : (p : Path) → IsNonDecreasingBy (λ (r : Row). ordering_index (bytes_cmp r.path.now p)) rows
  searchable p = searchable_from_sorted nat_list_cmp_total (λ (r : Row). r.path.now) rows p up

  pub is_place : (p : Path) (i : ℕ) → i < length rows → ((d : Row) → bytes_cmp (get_or rows i d).path.now p ≡ Equal)
      → Some i ≡ place_of (paths_of (rows_view rows)) p
  is_place p i h all =
      let d = some_row rows i h in
      let e = all (some_row rows i h) in
      let same : get_or (paths_of (rows_view rows)) i [] ≡ p =
      path_is i d h ∙ finite.slice_cmp-IsAntisymmetric finite.nat_cmp-IsAntisymmetric (get_or rows i d).path.now p
      e in
      sym (ap (place_of (paths_of (rows_view rows))) (sym same)
      ∙ place_at (paths_of (rows_view rows)) rise i (omega (arith, count)))

  pub no_place : (p : Path) (i : ℕ) → AllWithin (λ (r : Row). bytes_cmp r.path.now p ≡ Less) rows 0 i
      → AllWithin (λ (r : Row). bytes_cmp r.path.now p ≡ Greater) rows i (length rows)
      → None ≡ place_of (paths_of (rows_view rows)) p
  no_place p i less greater =
      let none =
      position_or_len_is (same p) (paths_of (rows_view rows)) (length (paths_of (rows_view rows))) [] (omega arith)
      (λ k h. false_from_ne_true (same p (get_or (paths_of (rows_view rows)) k []))
      (λ e. differs k (omega (arith, count)) (same_is p (get_or (paths_of (rows_view rows)) k []) e)))
      (λ h. absurd (omega arith)) in
      sym (ap (λ k. cond (nat_lt k (length (paths_of (rows_view rows)))) (Some k) None) none
      ∙ ap (λ b. cond b (Some (length (paths_of (rows_view rows)))) None)
      (le-ltb (length (paths_of (rows_view rows))) (length (paths_of (rows_view rows))) (omega arith)))
    where
      differs : (k : ℕ) → k < length rows → p ≡ get_or (paths_of (rows_view rows)) k [] → ⊥
      differs k h e =
          let d = some_row rows k h in
          let tie : bytes_cmp (get_or rows k d).path.now p ≡ Equal =
          ap (λ q. bytes_cmp q p) (sym (e ∙ path_is k d h)) ∙ tied_itself nat_list_cmp_total p in
          elim (cases_lt k i) as (λ _. ⊥) [
            | inl lt ↦ (let l = less k d (omega arith) lt in cc)
            | inr ge ↦ (let g = greater k d ge h in cc)
          ]

lowest : (o : Ordering) → ordering_index o ≤ ordering_index Less → o ≡ Less
lowest Less h = refl
lowest Equal h = absurd (omega arith)
lowest Greater h = absurd (omega arith)

highest : (o : Ordering) → ordering_index Greater ≤ ordering_index o → o ≡ Greater
highest Less h = absurd (omega arith)
highest Equal h = absurd (omega arith)
highest Greater h = refl

module _ (rows : List Row) (rise : Rise (paths_of (rows_view rows))) (p : Path) where
  pub searched_none : IsSearched rows p 0 (length rows)
  searched_none =
      record {
        rise = rise;
        ordered = omega arith;
        within = omega arith;
        less = λ k d a b. absurd (omega arith);
        greater = λ k d a b. absurd (omega arith);
      }

  pub searched_up : (low high middle : ℕ) → IsSearched rows p low high → low ≤ middle → middle < high
      → ((d : Row) → bytes_cmp (get_or rows middle d).path.now p ≡ Less) → IsSearched rows p (middle + 1) high
  searched_up low high middle s a b e = record {
    rise = rise;
    ordered = omega arith;
    within = s.within;
    less =
        λ k d x y. lowest (bytes_cmp (get_or rows k d).path.now p)
        (let n = searchable rows rise p k middle d (omega arith) (let w = s.within in omega arith) in
        let i = ap ordering_index (e d) in omega arith);
    greater = s.greater;
  }

  pub searched_down : (low high middle : ℕ) → IsSearched rows p low high → low ≤ middle → middle < high
      → ((d : Row) → bytes_cmp (get_or rows middle d).path.now p ≡ Greater) → IsSearched rows p low middle
  searched_down low high middle s a b e = record {
    rise = rise;
    ordered = a;
    within = (let w = s.within in omega arith);
    less = s.less;
    greater =
        λ k d x y. highest (bytes_cmp (get_or rows k d).path.now p)
        (let n = searchable rows rise p middle k d x y in let i = ap ordering_index (e d) in omega arith);
  }

-- what a row's path compares as, at any default
pub compared : (rows : List Row) (p : Path) (i : ℕ) (x : Row) (o : Ordering) → i < length rows
    → bytes_cmp (get_or rows i x).path.now p ≡ o → (d : Row) → bytes_cmp (get_or rows i d).path.now p ≡ o
compared rows p i x o h e d = ap (λ (r : Row). bytes_cmp r.path.now p) (get_or_default rows i d x h) ∙ e

-- ---- by heads

module _ (rows : List Row) (rise : Rise (paths_of (rows_view rows))) (heads : List ℕ)
    (are : AreHeads (paths_of (rows_view rows)) heads) (p : Path) (bytes : IsBytes p) where
  pub heads_count : length heads ≡ length rows
  heads_count = are.count ∙ count rows rise

  pub below_head : (k : ℕ) → k < length rows → slice_index heads k < head_of p → (d : Row)
      → bytes_cmp (get_or rows k d).path.now p ≡ Less
  below_head k h less d =
      let b : k < length (paths_of (rows_view rows)) = (let n = count rows rise in omega arith) in
      let e = are.head k b in
      ap (λ q. bytes_cmp q p) (sym (path_is rows rise k d h))
      ∙ less_by_head (get_or (paths_of (rows_view rows)) k []) p (are.bytes k b) bytes (omega (arith, e, less))

  pub above_head : (k : ℕ) → k < length rows → head_of p < slice_index heads k → (d : Row)
      → bytes_cmp (get_or rows k d).path.now p ≡ Greater
  above_head k h more d =
      let b : k < length (paths_of (rows_view rows)) = (let n = count rows rise in omega arith) in
      let e = are.head k b in
      ap (λ q. bytes_cmp q p) (sym (path_is rows rise k d h))
      ∙ greater_by_head (get_or (paths_of (rows_view rows)) k []) p (are.bytes k b) bytes (omega (arith, e, more))
