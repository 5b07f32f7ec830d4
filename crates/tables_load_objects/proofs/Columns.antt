-- The rows of one object as reads list them, and what they are in the world.
use Rattle.std.proofs.Common.{◌≡◌, ℕ, ℤ, List, [], ◌∷◌, map, Bool, true, false, cond, None, refl, sym, ap, subst, ◌∙◌}
use Rattle.std.proofs.Common.{string_bytes, T}
use Rattle.std.specs.List.{filter}
use Rattle.std.specs.declared.cmp.Ordering.{Ordering}
use Rattle.std.specs.declared.cmp.Ordering.TheVariants.{Equal}
use Rattle.std.specs.Ordering.{eq_by_cmp, int_cmp, is_lt, on, ordering_then, then_cmp}
use Rattle.std.specs.Cmp.{IsTotalOrder, int_cmp_total, tied_itself, eq_by_cmp_equiv}
use Rattle.std.specs.FinMap as finite
use Rattle.std.specs.FinMap.Entries.{is_sorted, below_all, where_key, same_entries, is_sorted-where_key, find-where_key}
use Rattle.paths.specs.Root.{bytes_cmp}
use Rattle.tables_sql.specs.Contents.{Contents}
use Rattle.tables_rows.specs.declared.references.Reference.{Reference}
use Rattle.tables_rows.specs.declared.outputs.Output.{Output}
use Rattle.tables_rows.specs.declared.pieces.Piece.{Piece}
use Rattle.tables_rows.specs.declared.pieces.PieceKey.{PieceKey}
use Rattle.tables_rows.specs.Entries.{reference_of, output_of, piece_in, numbered_in}
use Rattle.tables_sql.proofs.Orders.{numbered_total, numbered_antisymmetric}
use Rattle.model.specs.World.{Path}
use Rattle.tables_world.specs.Rows.{references_in, outputs_in, pieces_in}
use Rattle.tables_world.specs.Worlds.{rows_of}
use Rattle.tables_outline.proofs.Orders.{bytes_total, bytes_antisymmetric, pair_total, pair_antisymmetric}
use Rattle.tables_outline.proofs.Ordered.{both_T, from_both, listed_as}
use Rattle.tables_outline.proofs.Puts.{tied_is}
use Rattle.tables_load_objects.specs.Cut.{part_of, parts_of}
use Rattle.tables_load_objects.specs.Tested.{targets_of, named_of}
use Rattle.tables_load_objects.specs.Rising.{Rises}
use Rattle.tables_load_objects.proofs.OwnRows.{paths_rise, map_both, filter_mapped, none_mapped}

-- an entry by what is left of its key
abbrev cut : {L X : Type 0} → (Path × L) × X → L × X
cut e = (e.0.1, e.1)

abbrev by_both : {L : Type 0} → (L → L → Ordering) → Path × L → Path × L → Ordering
by_both S = then_cmp (on (λ k. k.0) bytes_cmp) (on (λ k. k.1) S)

lesser : {L : Type 0} (S : L → L → Ordering) (a b : Path) (x y : L) → a ≡ b → T (is_lt (by_both S (a, x) (b, y)))
    → T (is_lt (S x y))
lesser S a b x y same h =
    subst (λ r. T (is_lt (ordering_then r (S x y)))) (ap (bytes_cmp a) (sym same) ∙ tied_itself bytes_total a) h

module _ {L X : Type 0} (S : L → L → Ordering) (o : IsTotalOrder S) (alike : finite.IsAntisymmetric S)
    (both_o : IsTotalOrder (by_both S)) (both_alike : finite.IsAntisymmetric (by_both S)) (p : Path) where
  abbrev own : (Path × L) × X → Bool
  own e = eq_by_cmp bytes_cmp p e.0.0

  -- the entries of a path
  abbrev part : List ((Path × L) × X) → List (L × X)
  part es = map cut (filter own es)

  below_part : (e : (Path × L) × X) (es : List ((Path × L) × X)) → own e ≡ true → T (below_all (by_both S) e.0 es)
      → T (below_all S e.0.1 (part es))
  below_part e [] is h = tt
  below_part e (d ∷ es) is h =
      let parts = both_T (is_lt (by_both S e.0 d.0)) (below_all (by_both S) e.0 es) h in
      by (own d) refl parts.0 (below_part e es is parts.1)
    where
      by : (b : Bool) → own d ≡ b → T (is_lt (by_both S e.0 d.0)) → T (below_all S e.0.1 (part es))
          → T (below_all S e.0.1 (map cut (cond b (d ∷ filter own es) (filter own es))))
      by true t less later = from_both (is_lt (S e.0.1 d.0.1)) (below_all S e.0.1 (part es))
          (lesser S e.0.0 d.0.0 e.0.1 d.0.1
          (sym (tied_is bytes_antisymmetric p e.0.0 is) ∙ tied_is bytes_antisymmetric p d.0.0 t) less) later
      by false t less later = later

  part_sorted : (es : List ((Path × L) × X)) → T (is_sorted (by_both S) es) → T (is_sorted S (part es))
  part_sorted [] h = tt
  part_sorted (e ∷ es) h =
      let parts = both_T (below_all (by_both S) e.0 es) (is_sorted (by_both S) es) h in
      by (own e) refl parts.0 (part_sorted es parts.1)
    where
      by : (b : Bool) → own e ≡ b → T (below_all (by_both S) e.0 es) → T (is_sorted S (part es))
          → T (is_sorted S (map cut (cond b (e ∷ filter own es) (filter own es))))
      by true t below later =
          from_both (below_all S e.0.1 (part es)) (is_sorted S (part es)) (below_part e es t below) later
      by false t below later = later

  -- what a read of the path lists is what the path has
  module _ (m : finite.FinMap (by_both S) X) where
    abbrev of_path : Path × L → Bool
    of_path k = eq_by_cmp bytes_cmp k.0 p

    kept : finite.entries (finite.retain_keys m of_path) ≡ where_key (by_both S) of_path (finite.entries m)
    kept =
        same_entries (by_both S) both_o both_alike _ _ (finite.entries_sorted (finite.retain_keys m of_path))
        (is_sorted-where_key (by_both S) of_path (finite.entries m) (finite.entries_sorted m)) (λ q.
        sym (finite.get-entries (finite.retain_keys m of_path) q) ∙ finite.get-retain_keys m of_path q (like q)
        ∙ ap (λ g. cond (of_path q) g None) (finite.get-entries m q)
        ∙ sym (find-where_key (by_both S) of_path q (like q) (finite.entries m)))
      where
        like : (q x : Path × L) → by_both S q x ≡ Equal → of_path x ≡ of_path q
        like q x e = ap of_path (sym (both_alike q x e))

    turned : where_key (by_both S) of_path (finite.entries m) ≡ filter own (finite.entries m)
    turned = λ i. filter (λ (e : (Path × L) × X). (eq_by_cmp_equiv bytes_total).symm e.0.0 p i) (finite.entries m)

    -- the same, taken from a list of all entries
    pub used_part : (all : List ((Path × L) × X)) → all ≡ finite.entries m
        → filter own all ≡ finite.entries (finite.retain_keys m of_path)
    used_part all is = ap (filter own) is ∙ sym turned ∙ sym kept

    pub read_part : (rows : List ((Path × L) × X)) → rows ≡ finite.entries (finite.retain_keys m of_path)
        → map cut rows ≡ finite.entries (finite.from_entries {R = S} (part (finite.entries m)))
    read_part rows is =
        ap (map cut) (is ∙ kept ∙ turned)
        ∙ sym (listed_as o alike (part (finite.entries m)) (part_sorted (finite.entries m) (finite.entries_sorted m)))

-- ---- references, outputs and pieces

targets_cut : (rows : List Reference)
    → map (λ (e : List ℕ × Unit {0}). e.0) (map cut (map reference_of rows)) ≡ targets_of rows
targets_cut [] = refl
targets_cut (r ∷ rows) = ap (λ l. string_bytes r.target ∷ l) (targets_cut rows)

named_cut : (rows : List Output) → map cut (map output_of rows) ≡ named_of rows
named_cut [] = refl
named_cut (r ∷ rows) =
    ap (λ (l : List (List ℕ × Path)). (string_bytes r.name, string_bytes r.target) ∷ l) (named_cut rows)

parts_cut : (rows : List Piece) → map cut (map piece_in rows) ≡ parts_of rows
parts_cut [] = refl
parts_cut (r ∷ rows) = ap (λ (l : List (ℤ × List ℕ)). part_of r ∷ l) (parts_cut rows)

module _ (c : Contents) (p : Path) where
  pub targets_read : (rows : List Reference)
      → map reference_of rows ≡ finite.entries (finite.retain_keys c.refs (λ k. eq_by_cmp bytes_cmp k.0 p))
      → targets_of rows ≡ finite.keys (references_in (rows_of c) p)
  targets_read rows is =
      sym (targets_cut rows)
      ∙ ap (map (λ (e : List ℕ × Unit {0}). e.0))
      (read_part bytes_cmp bytes_total bytes_antisymmetric pair_total pair_antisymmetric p c.refs
      (map reference_of rows) is)

  pub named_read : (rows : List Output)
      → map output_of rows ≡ finite.entries (finite.retain_keys c.outs (λ k. eq_by_cmp bytes_cmp k.0 p))
      → named_of rows ≡ finite.entries (outputs_in (rows_of c) p)
  named_read rows is =
      sym (named_cut rows) ∙ read_part bytes_cmp bytes_total bytes_antisymmetric pair_total pair_antisymmetric p c.outs
      (map output_of rows) is

  pub parts_read : (rows : List Piece)
      → map piece_in rows ≡ finite.entries (finite.retain_keys c.pieces (λ k. eq_by_cmp bytes_cmp k.0 p))
      → parts_of rows ≡ finite.entries (pieces_in (rows_of c) p)
  parts_read rows is =
      sym (parts_cut rows) ∙ read_part int_cmp int_cmp_total finite.int_cmp-IsAntisymmetric numbered_total
      numbered_antisymmetric p c.pieces (map piece_in rows) is

  -- rows of the path among all rows
  pub targets_used : (all own : List Reference) → map reference_of all ≡ finite.entries c.refs
      → (Rises (map (λ (r : Reference). string_bytes r.base) all)
      → own ≡ filter (λ (r : Reference). eq_by_cmp bytes_cmp p (string_bytes r.base)) all)
      → targets_of own ≡ finite.keys (references_in (rows_of c) p)
  targets_used all own is found =
      let up : Rises (map (λ (r : Reference). string_bytes r.base) all) =
      subst Rises (ap (map (λ (e : (Path × Path) × Unit {0}). e.0.0)) (sym is)
      ∙ sym (map_both reference_of (λ (e : (Path × Path) × Unit {0}). e.0.0) all))
      (paths_rise bytes_cmp (finite.entries c.refs) (finite.entries_sorted c.refs)) in
      targets_read own (ap (map reference_of) (found up)
      ∙ filter_mapped reference_of (λ (e : (Path × Path) × Unit {0}). eq_by_cmp bytes_cmp p e.0.0) all
      ∙ used_part bytes_cmp bytes_total bytes_antisymmetric pair_total pair_antisymmetric p c.refs
      (map reference_of all) is)

  pub named_used : (all own : List Output) → map output_of all ≡ finite.entries c.outs
      → (Rises (map (λ (r : Output). string_bytes r.base) all)
      → own ≡ filter (λ (r : Output). eq_by_cmp bytes_cmp p (string_bytes r.base)) all)
      → named_of own ≡ finite.entries (outputs_in (rows_of c) p)
  named_used all own is found =
      let up : Rises (map (λ (r : Output). string_bytes r.base) all) =
      subst Rises (ap (map (λ (e : (Path × Path) × Path). e.0.0)) (sym is)
      ∙ sym (map_both output_of (λ (e : (Path × Path) × Path). e.0.0) all))
      (paths_rise bytes_cmp (finite.entries c.outs) (finite.entries_sorted c.outs)) in
      named_read own (ap (map output_of) (found up)
      ∙ filter_mapped output_of (λ (e : (Path × Path) × Path). eq_by_cmp bytes_cmp p e.0.0) all
      ∙ used_part bytes_cmp bytes_total bytes_antisymmetric pair_total pair_antisymmetric p c.outs (map output_of all)
      is)

  -- where no piece of the path is listed, it has none
  pub no_parts : (keys own : List PieceKey) → map numbered_in keys ≡ finite.keys c.pieces
      → (Rises (map (λ (r : PieceKey). string_bytes r.base) keys)
      → own ≡ filter (λ (r : PieceKey). eq_by_cmp bytes_cmp p (string_bytes r.base)) keys)
      → own ≡ [] → finite.entries (finite.retain_keys c.pieces (λ k. eq_by_cmp bytes_cmp k.0 p)) ≡ []
  no_parts keys own is found none =
      let first : (Path × ℤ) × List ℕ → Path × ℤ = λ e. e.0 in
      let up : Rises (map (λ (r : PieceKey). string_bytes r.base) keys) =
      subst Rises (map_both first (λ (k : Path × ℤ). k.0) (finite.entries c.pieces)
      ∙ ap (map (λ (k : Path × ℤ). k.0)) (sym is) ∙ sym (map_both numbered_in (λ (k : Path × ℤ). k.0) keys))
      (paths_rise int_cmp (finite.entries c.pieces) (finite.entries_sorted c.pieces)) in
      let test : Path × ℤ → Bool = λ k. eq_by_cmp bytes_cmp p k.0 in
      let listed : filter test (map numbered_in keys) ≡ [] =
      sym (filter_mapped numbered_in test keys) ∙ ap (map numbered_in) (sym (found up) ∙ none) in
      sym (used_part int_cmp int_cmp_total finite.int_cmp-IsAntisymmetric numbered_total numbered_antisymmetric p
      c.pieces (finite.entries c.pieces) refl)
      ∙ none_mapped first (filter (λ (e : (Path × ℤ) × List ℕ). test e.0) (finite.entries c.pieces))
      (filter_mapped first test (finite.entries c.pieces) ∙ ap (filter test) (sym is) ∙ listed)
