-- The table of pieces, described once, and what the texts of its statements mean.
use Rattle.std.proofs.Common.{ℕ, ℤ, List, [], ◌∷◌, codes, ◌&&◌, refl}
use Rattle.std.specs.Ordering.{eq_by_cmp}
use Rattle.std.specs.List.{AllByRecursion}
use Rattle.sqlite_value.specs.declared.value.Value.TheVariants.{Int, Text, Blob}
use Rattle.sqlite_value.specs.Order.{bytes}
use Rattle.sqlite_trees.specs.View.{is_int}
use Rattle.sqlite_rules.specs.Edit.{id_in}
use Rattle.sqlite_tied.specs.Compute.{everything}
use Rattle.tables_schema.specs.Forms.{piece}
use Rattle.tables_schema.specs.Intact.{IsIntact}
use Rattle.tables_sql.specs.Contents.{Bytes, Numbered, texts_cmp, numbered_cmp, is_text, is_blob, is_piece, piece_of}
use Rattle.tables_sql.specs.Calls.{HasFurther}
use Rattle.tables_sql.specs.Queries.{IsSelect}
use Rattle.tables_rows.specs.Entries.{piece_in, ShowsPiece, IsPieceRow}
use Rattle.tables_sql.proofs.Orders.{numbered_total, numbered_antisymmetric}
use Rattle.tables_sql.proofs.Truths.{cast_null, cast_int, and_so}
use Rattle.tables_sql.proofs.Means.{insert_means}
use Rattle.tables_sql.proofs.Ordered.{Place, IsColumn}
use Rattle.tables_sql.proofs.FurtherTables.{piece_kept, pieces_held, pieces_set}
use Rattle.tables_sql.proofs.Parts.{added, selected, removed, said_one}
use Rattle.tables_sql.proofs.KeyOrders.{by_numbered}
use Rattle.tables_rows.proofs.Legible.{piece_row}
use Rattle.tables_sql.proofs.FreeKeys.{agreed_two}
use Rattle.tables_sql.proofs.Places.{further_kept}
use Rattle.tables_sql.proofs.Description.{Description, Addition, Removal, Reading, Selection}

-- ---- the table

abbrev pub table : Description Numbered Bytes
table = record {
  name = piece.name;
  columns = piece.columns;
  key = piece.primary;
  order = numbered_cmp;
  total = numbered_total;
  same = numbered_antisymmetric;
  kind = is_piece;
  entry = piece_of;
  IsIn = λ s. IsIntact s piece;
  IsOwn = λ db. HasFurther db piece;
  within = λ db of_store mine. mine.exists;
  of = λ c. c.pieces;
  put = λ c m. record c { pieces = m };
  held = pieces_held;
  named = refl;
  exists = λ s here. here;
  keyed = λ db of_store mine. mine.keyed;
  kept = piece_kept;
  written = λ old new rows has here sets m is. pieces_set old new has rows here sets m is;
  still =
      λ old new rows exists sets keyed readable mine. further_kept piece old new rows exists sets keyed readable piece
      mine;
}

-- ---- one more

abbrev pub insert_text : List ℕ
insert_text = codes "INSERT INTO piece (base, num, bytes) VALUES (?1, ?2, ?3)"

pub addition : (base : List ℕ) (number : ℤ) (content : List ℕ)
    → Addition table insert_text (Text base ∷ Int number ∷ Blob content ∷ [])
    (Text base ∷ Int number ∷ Blob content ∷ []) (base, number) content
unfolding everything
addition base number content =
    added table (λ s at tree found. (
      _,
      insert_means insert_text refl s at (codes "piece") piece.columns piece.primary tree _ found refl,
      refl,
      refl,
      refl,
      refl,
      refl,
    ))
    (λ rows. rw (cast_null, cast_int number) refl) (refl, refl, λ id. (refl, refl, refl))
    (λ id r kind h. let e = agreed_two (Text base) (Int number) (Int id) (Blob content ∷ []) r
    (and_so _ _ (and_so _ _ kind).0) h in λ i. (e.0 i, e.1 i))

-- ---- reading them

abbrev pub places : List Place
places = (codes "base", 0) ∷ (codes "num", 1) ∷ (codes "bytes", 2) ∷ []

pub places_are : AllByRecursion (IsColumn piece.name piece.columns piece.primary) places
unfolding everything
places_are = ((refl, (_, refl, refl, refl)), ((refl, (_, refl, refl, refl)), ((refl, (_, refl, refl, refl)), tt)))

abbrev pub reading : Reading table ShowsPiece piece_in IsPieceRow
reading = record {
  shown = places;
  by = 2;
  fits =
      λ params filter tree r t h. (
        λ i. is_text (h.0 i) && is_int (h.1 i) && is_blob (h.2 i),
        λ i. ((bytes (h.0 i), id_in (h.1 i)), bytes (h.2 i)),
      );
  legible = λ params filter tree. piece_row;
  orders = λ params filter tree. by_numbered;
}

abbrev pub of_text : List ℕ
of_text = codes "SELECT base, num, bytes FROM piece WHERE base = ?1 ORDER BY base, num"

pub of : (base : List ℕ) → Selection table reading of_text (Text base ∷ []) (λ k. eq_by_cmp texts_cmp k.0 base)
unfolding everything
of base =
    selected table reading places_are refl of_text (Text base ∷ []) (
      (_, _, _, _, refl, refl, refl),
      refl,
      λ s at tree known. (rw (known.low, known.by_tree), rw (known.low, known.by_tree) refl),
    )
    (λ r kind. said_one (Text base) r (and_so _ _ (and_so _ _ kind).0).0)

-- ---- those gone

abbrev pub delete_of_text : List ℕ
delete_of_text = codes "DELETE FROM piece WHERE base = ?1"

pub removal : (base : List ℕ) → Removal table delete_of_text (Text base ∷ []) (λ k. eq_by_cmp texts_cmp k.0 base)
unfolding everything
removal base =
    removed table places places_are refl delete_of_text (Text base ∷ []) (
      (_, _, _, _, refl, refl, refl),
      refl,
      λ s at tree known. (rw (known.low, known.by_tree), rw (known.low, known.by_tree) refl),
    )
    (λ r kind. said_one (Text base) r (and_so _ _ (and_so _ _ kind).0).0)

-- ---- they are SELECTs

pub of_read : IsSelect of_text
of_read = (of []).reads
