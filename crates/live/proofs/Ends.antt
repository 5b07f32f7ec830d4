-- What was deleted and what is left at the end, by places and by paths.
use Rattle.std.proofs.Common.{◌≡◌, ℕ, suc, ◌<◌, Bool, true, false, List, [], ◌∷◌, length, get_or, map, Option, Some}
use Rattle.std.proofs.Common.{None, refl, sym, ap, ◌∙◌, subst, inl, inr, arith, IsTrue}
use Rattle.std.specs.Prelude.{filter, not, is_none, IfNone, IfSome}
use Rattle.std.specs.List.{range_with_len}
use Rattle.std.specs.Option.{option_map}
use Rattle.std.specs.Cmp.Lexicographic.{nat_list_cmp_total}
use Rattle.std.specs.Ordering.{is_lt}
use Rattle.std.specs.declared.cmp.Ordering.TheVariants.{Less}
use Rattle.std.specs.FinMap as finite
use Rattle.std.specs.FinMap.Entries.{is_sorted, below_all}
use lib.Dec.{T}
use Rattle.std.proofs.lemmas.Bool.{cases_Bool, false≢true, false_from_ne_true}
use Rattle.paths.specs.Root.{Root, bytes_cmp}
use Rattle.live.specs.Graph.{Path, Keep, Graph, same, holds}
use Rattle.live.specs.Live.{IsLive, IsFirstRoot, is_live, first_root}
use Rattle.live.specs.Limited.{is_among, limited_groups, limited_paths, groups_by}
use Rattle.live.specs.Numbering.{Row, Rise, graph_of, path_at, paths_of, root_at}
use Rattle.live.specs.Marks.{Marking, first_of}
use Rattle.live.specs.Exact.{IsExact}
use Rattle.live.specs.Remainder.{is_in, left_after, places_left}
use Rattle.live.proofs.Asked.{same_passing, paths_passing}
use Rattle.live.proofs.Live.{live_decided, first_roots}
use Rattle.live.proofs.Order.{from_both}
use Rattle.live.proofs.Ranges.{any_false, any_true}
use Rattle.live.proofs.References.{same_at}
use Rattle.live.proofs.Reach.{same_itself}
use Rattle.live.proofs.Rests.{all_kept, left_is}

-- ---- the paths of a graph of rows that rise are those of the rows

below_rows : (p : Path) (rows : List Row)
    → ((j : ℕ) → j < length (paths_of rows) → (d : Path) → bytes_cmp p (get_or (paths_of rows) j d) ≡ Less)
    → T (below_all bytes_cmp p rows)
below_rows p [] h = tt
below_rows p (r ∷ rows) h =
    from_both (is_lt (bytes_cmp p r.0)) _ (subst (λ o. T (is_lt o)) (sym (h 0 (omega arith) r.0)) tt)
    (below_rows p rows (λ j l d. h (suc j) (omega arith) d))

sorted_rows : (rows : List Row) → Rise (paths_of rows) → T (is_sorted bytes_cmp rows)
sorted_rows [] h = tt
sorted_rows (r ∷ rows) h =
    from_both (below_all bytes_cmp r.0 rows) _
    (below_rows r.0 rows (λ j l d. h 0 (suc j) d (omega arith) (omega arith)))
    (sorted_rows rows (λ i j d l k. h (suc i) (suc j) d (omega arith) (omega arith)))

pub keys_are : (rows : List Row) → Rise (paths_of rows) → finite.keys (graph_of rows) ≡ paths_of rows
keys_are rows rise =
    let sorted = sorted_rows rows rise in
    ap finite.keys (finite.same_map nat_list_cmp_total (finite.slice_cmp-IsAntisymmetric finite.nat_cmp-IsAntisymmetric)
    (finite.from_entries rows) (finite.from_sorted {R = bytes_cmp} rows)
    (λ q. finite.get-from_entries nat_list_cmp_total rows q ∙ sym (finite.get-from_sorted bytes_cmp rows q sorted)))
    ∙ ap (map (λ (e : Row). e.0)) (finite.entries-from_sorted bytes_cmp rows sorted)

module _ (rows : List Row) (rise : Rise (paths_of rows)) where
  -- a place passes if and only if its path is among those that pass
  holds_at : (l : ℕ → Bool) (i : ℕ) → i < length rows
      → holds (map (path_at rows) (filter l (range_with_len 0 (length rows)))) (path_at rows i) ≡ l i
  holds_at l i h =
      elim (cases_Bool (l i)) as (λ _. holds (map (path_at rows) (filter l (range_with_len 0 (length rows))))
      (path_at rows i) ≡ l i) [
        | inl e ↦ any_true (path_at rows) l (same (path_at rows i)) 0 (length rows) i (omega arith) (omega arith) e
            (same_itself (path_at rows i)) ∙ sym e
        | inr e ↦ any_false (path_at rows) l (same (path_at rows i)) 0 (length rows)
            (λ j b k. false_from_ne_true (same (path_at rows i) (path_at rows j))
            (λ t. false≢true (sym e ∙ ap l (same_at rows rise i j h (omega arith) t) ∙ k))) ∙ sym e
      ]

  -- at first all are left
  pub all_left : (left : List Bool) → length left ≡ length rows → ((i : ℕ) → i < length rows → IsTrue (is_in left i))
      → map (path_at rows) (places_left left) ≡ paths_of rows
  all_left left n all =
      paths_passing rows (λ p. true) (places_left left)
      (ap (λ k. filter (is_in left) (range_with_len 0 k)) n ∙ same_passing (is_in left) (λ i. true) (length rows) all)
      ∙ all_kept (paths_of rows)

  -- what isn't left at the end is what some group took
  pub went : (dead : Path → Bool) (size : Path → ℕ) (limit : ℕ) (left : List Bool) → length left ≡ length rows
      → map (path_at rows) (places_left left)
      ≡ left_after (graph_of rows) dead size (paths_of rows) (paths_of rows) limit
      → (v : List ℕ) → v ≡ filter (λ i. not (is_in left i)) (range_with_len 0 (length left))
      → v ≡ filter (λ i. is_among (limited_groups (graph_of rows) dead size limit) (path_at rows i))
      (range_with_len 0 (length rows))
  went dead size limit left n after v is =
      is ∙ ap (λ k. filter (λ i. not (is_in left i)) (range_with_len 0 k)) n
      ∙ same_passing (λ i. not (is_in left i))
      (λ i. is_among (limited_groups (graph_of rows) dead size limit) (path_at rows i)) (length rows) agree
    where
      groups : List (List Path)
      groups = groups_by (graph_of rows) dead size (paths_of rows) (paths_of rows) limit

      same_groups : groups ≡ limited_groups (graph_of rows) dead size limit
      same_groups = ap (λ ps. groups_by (graph_of rows) dead size ps ps limit) (sym (keys_are rows rise))

      both : map (path_at rows) (filter (is_in left) (range_with_len 0 (length rows)))
          ≡ map (path_at rows) (filter (λ i. not (is_among groups (path_at rows i))) (range_with_len 0 (length rows)))
      both =
          ap (λ k. map (path_at rows) (filter (is_in left) (range_with_len 0 k))) (sym n) ∙ after
          ∙ left_is (graph_of rows) dead size (paths_of rows) (paths_of rows) limit
          ∙ sym (paths_passing rows (λ p. not (is_among groups p))
          (filter (λ i. not (is_among groups (path_at rows i))) (range_with_len 0 (length rows))) refl)

      twice : (b : Bool) → not (not b) ≡ b
      twice true = refl
      twice false = refl

      agree : (i : ℕ) → i < length rows
          → not (is_in left i) ≡ is_among (limited_groups (graph_of rows) dead size limit) (path_at rows i)
      agree i h =
          ap not (sym (holds_at (is_in left) i h) ∙ ap (λ ps. holds ps (path_at rows i)) both
          ∙ holds_at (λ j. not (is_among groups (path_at rows j))) i h)
          ∙ twice (is_among groups (path_at rows i)) ∙ ap (λ gs. is_among gs (path_at rows i)) same_groups

  pub paths_deleted : (dead : Path → Bool) (size : Path → ℕ) (limit : ℕ) (v : List ℕ)
      → v ≡ filter (λ i. is_among (limited_groups (graph_of rows) dead size limit) (path_at rows i))
      (range_with_len 0 (length rows))
      → map (path_at rows) v ≡ limited_paths (graph_of rows) dead size limit
  paths_deleted dead size limit v is =
      paths_passing rows (is_among (limited_groups (graph_of rows) dead size limit)) v is
      ∙ ap (filter (is_among (limited_groups (graph_of rows) dead size limit))) (sym (keys_are rows rise))

-- ---- dead paths have no mark

module _ (keep : Keep) (g : Graph) (roots : List Root) (p : Path) where
  no_first : (o : Option Root) → first_root keep g roots p ≡ o → is_none o ≡ not (is_live keep g roots p)
  no_first None e =
      sym (ap not (false_from_ne_true (is_live keep g roots p)
      (λ t. subst (λ o. IfNone o (IsLive keep g roots p → ⊥)) e (first_roots keep g roots p).none
      ((live_decided keep g roots p).0 t))))
  no_first (Some r) e =
      let f = subst (λ o. IfSome o (λ s. IsFirstRoot keep g roots p s)) e (first_roots keep g roots p).first in
      sym (ap not ((live_decided keep g roots p).1 (record { root = r; listed = f.listed; reaches = f.reaches })))

pub dead_is : (keep : Keep) (rows : List Row) (given : List Root) (m : Marking) → IsExact keep rows given m → (i : ℕ)
    → i < length rows → not (is_live keep (graph_of rows) given (path_at rows i)) ≡ is_none (first_of m i)
dead_is keep rows given m exact i h =
    sym (no_first keep (graph_of rows) given (path_at rows i) (first_root keep (graph_of rows) given (path_at rows i))
    refl) ∙ sym (ap is_none (exact.first i h)) ∙ through (first_of m i)
  where
    through : (o : Option ℕ) → is_none (option_map (root_at given) o) ≡ is_none o
    through None = refl
    through (Some k) = refl
