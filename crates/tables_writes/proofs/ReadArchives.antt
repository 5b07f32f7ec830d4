-- The archive of a path, as its row and its pieces have it.
use Rattle.std.proofs.Common.{◌≡◌, ◌≤◌, ℕ, List, [], ◌∷◌, ◌++◌, length, length-append, arith, map, Bool, true, false}
use Rattle.std.proofs.Common.{cond, Some, None, Option, refl, sym, ap, subst, ◌∙◌, IsTrue, T}
use Rattle.std.specs.Prelude.{ℤ, option_map}
use Rattle.std.specs.List.{filter, flat_map}
use Rattle.std.specs.declared.cmp.Ordering.TheVariants.{Equal}
use Rattle.std.specs.Ordering.{eq_by_cmp, is_lt, int_cmp, ordering_then}
use Rattle.std.specs.Cmp.{tied_itself, eq_by_cmp_equiv, int_cmp_total}
use Rattle.std.proofs.lemmas.Option.{same_Some}
use Rattle.std.specs.FinMap as finite
use Rattle.std.specs.FinMap.Entries.{is_sorted, below_all, where_key, same_entries, is_sorted-where_key, find-where_key}
use Rattle.sqlite_trees.specs.declared.store.Store.{Ghosts}
use Rattle.sqlite.specs.State.{HasCleanDisk}
use Rattle.sqlite.specs.Held.{state}
use Rattle.paths.specs.Root.{bytes_cmp}
use Rattle.tables_sql.specs.Contents.{Contents, Stored, Numbered, numbered_cmp, contents_of}
use Rattle.tables_rows.specs.Entries.{stored_of, piece_in}
use Rattle.tables_sql.proofs.Orders.{numbered_total, numbered_antisymmetric}
use Rattle.tables_rows.specs.declared.objects.Object.{Object as Row}
use Rattle.tables_rows.specs.declared.pieces.Piece.{Piece}
use Rattle.model.specs.World.{Path, Object, World}
use Rattle.tables_world.specs.Pieces.{joined, IsCut}
use Rattle.tables_world.specs.Rows.{pieces_in, archive_in, object_in}
use Rattle.tables_world.specs.Worlds.{rows_of, world_in}
use Rattle.tables_outline.proofs.Orders.{bytes_total, bytes_antisymmetric}
use Rattle.tables_outline.proofs.Ordered.{both_T, from_both, listed_as}
use Rattle.tables_outline.proofs.Puts.{tied_is}
use Rattle.tables_outline.proofs.Reported.{get-reported}
use Rattle.tables_outline.specs.Outline.{OutlineValue, Outlined, outlined}
use Rattle.tables_writes.proofs.AddedObjects.{none_reported}
use Rattle.tables_writes.proofs.Cuts.{size_is}
use Rattle.tables_writes.specs.TablesValue.{TablesValue, Agrees, HasWorld}

-- ---- the pieces of a path, as a read lists them

lesser : (a b : Path) (x y : ℤ) → a ≡ b → T (is_lt (numbered_cmp (a, x) (b, y))) → T (is_lt (int_cmp x y))
lesser a b x y same h =
    subst (λ r. T (is_lt (ordering_then r (int_cmp x y)))) (ap (bytes_cmp a) (sym same) ∙ tied_itself bytes_total a) h

module _ (p : Path) where
  abbrev own : Numbered × List ℕ → Bool
  own e = eq_by_cmp bytes_cmp p e.0.0

  abbrev cut : Numbered × List ℕ → ℤ × List ℕ
  cut e = (e.0.1, e.1)

  -- those of the path, by their numbers
  abbrev part : List (Numbered × List ℕ) → List (ℤ × List ℕ)
  part es = map cut (filter own es)

  below_part : (e : Numbered × List ℕ) (es : List (Numbered × List ℕ)) → own e ≡ true
      → T (below_all numbered_cmp e.0 es) → T (below_all int_cmp e.0.1 (part es))
  below_part e [] is h = tt
  below_part e (d ∷ es) is h =
      let parts = both_T (is_lt (numbered_cmp e.0 d.0)) (below_all numbered_cmp e.0 es) h in
      by (own d) refl parts.0 (below_part e es is parts.1)
    where
      by : (b : Bool) → own d ≡ b → T (is_lt (numbered_cmp e.0 d.0)) → T (below_all int_cmp e.0.1 (part es))
          → T (below_all int_cmp e.0.1 (map cut (cond b (d ∷ filter own es) (filter own es))))
      by true t less later = from_both (is_lt (int_cmp e.0.1 d.0.1)) (below_all int_cmp e.0.1 (part es))
          (lesser e.0.0 d.0.0 e.0.1 d.0.1
          (sym (tied_is bytes_antisymmetric p e.0.0 is) ∙ tied_is bytes_antisymmetric p d.0.0 t) less) later
      by false t less later = later

  part_sorted : (es : List (Numbered × List ℕ)) → T (is_sorted numbered_cmp es) → T (is_sorted int_cmp (part es))
  part_sorted [] h = tt
  part_sorted (e ∷ es) h =
      let parts = both_T (below_all numbered_cmp e.0 es) (is_sorted numbered_cmp es) h in
      by (own e) refl parts.0 (part_sorted es parts.1)
    where
      by : (b : Bool) → own e ≡ b → T (below_all numbered_cmp e.0 es) → T (is_sorted int_cmp (part es))
          → T (is_sorted int_cmp (map cut (cond b (e ∷ filter own es) (filter own es))))
      by true t below later =
          from_both (below_all int_cmp e.0.1 (part es)) (is_sorted int_cmp (part es)) (below_part e es t below) later
      by false t below later = later

  module _ (m : finite.FinMap numbered_cmp (List ℕ)) where
    abbrev of_path : Numbered → Bool
    of_path k = eq_by_cmp bytes_cmp k.0 p

    kept : finite.entries (finite.retain_keys m of_path) ≡ where_key numbered_cmp of_path (finite.entries m)
    kept =
        same_entries numbered_cmp numbered_total numbered_antisymmetric _ _
        (finite.entries_sorted (finite.retain_keys m of_path))
        (is_sorted-where_key numbered_cmp of_path (finite.entries m) (finite.entries_sorted m)) (λ q.
        sym (finite.get-entries (finite.retain_keys m of_path) q) ∙ finite.get-retain_keys m of_path q (alike q)
        ∙ ap (λ g. cond (of_path q) g None) (finite.get-entries m q)
        ∙ sym (find-where_key numbered_cmp of_path q (alike q) (finite.entries m)))
      where
        alike : (q x : Numbered) → numbered_cmp q x ≡ Equal → of_path x ≡ of_path q
        alike q x e = ap of_path (sym (numbered_antisymmetric q x e))

    turned : where_key numbered_cmp of_path (finite.entries m) ≡ filter own (finite.entries m)
    turned = λ i. filter (λ (e : Numbered × List ℕ). (eq_by_cmp_equiv bytes_total).symm e.0.0 p i) (finite.entries m)

    read_part : (rows : List (Numbered × List ℕ)) → rows ≡ finite.entries (finite.retain_keys m of_path)
        → map cut rows ≡ finite.entries (finite.from_entries {R = int_cmp} (part (finite.entries m)))
    read_part rows is =
        ap (map cut) (is ∙ kept ∙ turned)
        ∙ sym (listed_as int_cmp_total finite.int_cmp-IsAntisymmetric (part (finite.entries m))
        (part_sorted (finite.entries m) (finite.entries_sorted m)))

  -- their bytes, one after another
  bytes_cut : (rows : List Piece) → flat_map (λ (x : Piece). x.bytes.items) rows ≡ joined (map cut (map piece_in rows))
  bytes_cut [] = refl
  bytes_cut (r ∷ rows) = ap (λ l. r.bytes.items ++ l) (bytes_cut rows)

  pub pieces_read : (c : Contents) (rows : List Piece)
      → map piece_in rows ≡ finite.entries (finite.retain_keys c.pieces (λ k. eq_by_cmp bytes_cmp k.0 p))
      → flat_map (λ (x : Piece). x.bytes.items) rows ≡ joined (finite.entries (pieces_in (rows_of c) p))
  pieces_read c rows is = bytes_cut rows ∙ ap joined (read_part c.pieces (map piece_in rows) is)

-- ---- the archive

-- none is read where there is none
pub none_read : (c : Contents) (base : Path) → finite.get c.objects base ≡ None
    → None ≡ option_map (archive_in (rows_of c) base) (finite.get c.objects base)
none_read c base h = sym (ap (option_map (archive_in (rows_of c) base)) h)

-- what is read is the archive that the rows have
pub all_read : (c : Contents) (base : Path) (e : Row) (rows : List Piece) (nar : List ℕ)
    → (finite.get c.objects base ≡ Some (stored_of e).1)
    → map piece_in rows ≡ finite.entries (finite.retain_keys c.pieces (λ k. eq_by_cmp bytes_cmp k.0 base))
    → nar ≡ e.nar.items ++ flat_map (λ (x : Piece). x.bytes.items) rows
    → Some nar ≡ option_map (archive_in (rows_of c) base) (finite.get c.objects base)
all_read c base e rows nar present listed is =
    ap Some (is ∙ ap (λ l. e.nar.items ++ l) (pieces_read base c rows listed))
    ∙ sym (ap (option_map (archive_in (rows_of c) base)) present)

-- An archive that fits into a row has no further pieces.
ends : (row : List ℕ) (pieces : List (ℤ × List ℕ)) → IsCut row pieces → length (row ++ joined pieces) ≤ 65536
    → joined pieces ≡ []
ends row [] cut few = refl
ends row (e ∷ es) cut few =
    absurd (omega (
      arith,
      few,
      cut.0,
      cut.2,
      size_is,
      length-append row (e.1 ++ joined es),
      length-append e.1 (joined es),
    ))

-- then the row alone is read
pub row_read : (c : Contents) (base : Path) (e : Row) (size : ℕ) (rows : List Piece) (nar : List ℕ)
    → (finite.get c.objects base ≡ Some (stored_of e).1)
    → IsCut e.nar.items (finite.entries (pieces_in (rows_of c) base))
    → length (archive_in (rows_of c) base (stored_of e).1) ≡ size → size ≤ 65536
    → rows ≡ [] → nar ≡ e.nar.items ++ flat_map (λ (x : Piece). x.bytes.items) rows
    → Some nar ≡ option_map (archive_in (rows_of c) base) (finite.get c.objects base)
row_read c base e size rows nar present cut counts few none is =
    let fits : length (archive_in (rows_of c) base (stored_of e).1) ≤ 65536 = omega (arith, counts, few) in
    ap Some (is ∙ ap (λ l. e.nar.items ++ l)
    (ap (flat_map (λ (x : Piece). x.bytes.items)) none
    ∙ sym (ends e.nar.items (finite.entries (pieces_in (rows_of c) base)) cut fits)))
    ∙ sym (ap (option_map (archive_in (rows_of c) base)) present)

abbrev nar_of : Object → List ℕ
nar_of o = o.nar

-- and the one of the world that they show
in_world : (c : Contents) (path : Path)
    → option_map nar_of (finite.get (world_in c).objects path)
    ≡ option_map (archive_in (rows_of c) path) (finite.get c.objects path)
in_world c path =
    ap (option_map nar_of) (get-reported bytes_total bytes_antisymmetric (object_in (rows_of c)) c.objects path)
    ∙ by (finite.get c.objects path)
  where
    by : (s : Option Stored) → option_map nar_of (option_map (object_in (rows_of c) path) s)
        ≡ option_map (archive_in (rows_of c) path) s
    by None = refl
    by (Some x) = refl

pub archive_reported : {S : Type 0} (g : Ghosts S) (k now : TablesValue S) → k ≡ now
    → (base path : Path) (nar : Option (List ℕ)) → base ≡ path
    → HasCleanDisk (state g k.connection) → IsTrue (state g k.connection).is_open
    → nar ≡ option_map (archive_in (rows_of (contents_of (state g k.connection).now)) base)
    (finite.get (contents_of (state g k.connection).now).objects base)
    → (w : World) → HasWorld g now w → nar ≡ option_map nar_of (finite.get w.objects path)
archive_reported g k now view base path nar same clean is_open is w t =
    let reported = subst (λ (n : TablesValue _). HasWorld g n w) (sym view) t in
    let c = contents_of (state g k.connection).now in
    is ∙ ap (λ p. option_map (archive_in (rows_of c) p) (finite.get c.objects p)) same ∙ sym (in_world c path)
    ∙ ap (λ (v : World). option_map nar_of (finite.get v.objects path)) (reported.rows clean is_open)

-- ---- what the outline says of it

some_reported : {X Y : Type 0} (f : X → Y) (g : Option X) (x : X) (y : Y) → g ≡ Some x → Some y ≡ option_map f g
    → y ≡ f x
some_reported f g x y present is = same_Some y (f x) (is ∙ ap (option_map f) present)

module _ {S : Type 0} (g : Ghosts S) (k : TablesValue S) (agrees : Agrees g k) (base path : Path) (same : base ≡ path)
    (clean : HasCleanDisk (state g k.connection)) (is_open : IsTrue (state g k.connection).is_open) where
  abbrev contents : Contents
  contents = contents_of (state g k.connection).now

  -- it is cut the right way
  pub archive_cut : (o : Stored) → finite.get contents.objects base ≡ Some o
      → IsCut o.nar (finite.entries (pieces_in (rows_of contents) base))
  archive_cut o present = (agrees.rows clean is_open).sound.cut refl base o present

  -- it has as many bytes as the outline says
  pub archive_size : (found : Outlined) (size : ℕ) → Some found ≡ finite.get k.outline.objects path → size ≡ found.size
      → (o : Stored) → finite.get contents.objects base ≡ Some o → length (archive_in (rows_of contents) base o) ≡ size
  archive_size found size at is o present =
      let reported = at ∙ ap (λ (x : OutlineValue). finite.get x.objects path) (sym (agrees.rows clean is_open).same)
      ∙ get-reported bytes_total bytes_antisymmetric (λ _ x. outlined x) (world_in contents).objects path in
      let stored =
      get-reported bytes_total bytes_antisymmetric (object_in (rows_of contents)) contents.objects path
      ∙ ap (option_map (object_in (rows_of contents) path))
      (ap (finite.get contents.objects) (sym same) ∙ present) in
      ap (λ p. length (archive_in (rows_of contents) p o)) same
      ∙ sym (is ∙ ap (λ (x : Outlined). x.size)
      (some_reported outlined (finite.get (world_in contents).objects path) (object_in (rows_of contents) path o)
      found stored reported))

-- a path that the outline hasn't has none
pub none_kept : {S : Type 0} (g : Ghosts S) (k now : TablesValue S) → k ≡ now → (path : Path)
    → None ≡ finite.get k.outline.objects path → (w : World) → HasWorld g now w
    → None ≡ option_map nar_of (finite.get w.objects path)
none_kept g k now view path none w t =
    let reported = subst (λ (n : TablesValue _). HasWorld g n w) (sym view) t in
    let gone = get-reported bytes_total bytes_antisymmetric (λ _ x. outlined x) w.objects path in
    sym (ap (option_map nar_of) (none_reported outlined (finite.get w.objects path)
    (sym gone ∙ ap (λ (x : OutlineValue). finite.get x.objects path) reported.outline ∙ sym none)))
