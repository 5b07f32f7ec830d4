-- The same of the further tables, where they are there or not, and of all eleven.
use Rattle.std.proofs.Common.{◌≡◌, ◌↔◌, ℕ, zero, suc, ◌+◌, ◌<◌, List, [], true, ◌&&◌, sym, ap, subst, ◌∙◌, arith}
use Rattle.std.specs.Prelude.{⊤, IsUtf8}
use Rattle.std.specs.FinMap as finite
use Rattle.sqlite_value.specs.Order.{Row, column, bytes}
use Rattle.sqlite_trees.specs.View.{is_int}
use Rattle.sqlite_rules.specs.Lists.{Has}
use Rattle.sqlite.specs.Effect.{Database, IsDatabase}
use Rattle.tables_schema.specs.Forms.{piece, temp_root}
use Rattle.tables_schema.specs.Intact.{IsIntact}
use Rattle.tables_schema.specs.Presence.{IsFree}
use Rattle.tables_sql.specs.Contents.{Bytes, contents_of, numbered_cmp, session_path_cmp, is_text, is_piece, piece_of}
use Rattle.tables_sql.specs.Contents.{is_session_path, session_path_of, map_of, rows_named}
use Rattle.tables_sql.specs.Texts.{IsReadable, AreReadable, AreReadableRows}
use Rattle.tables_sql.specs.Calls.{IsKeyed, IsWhole}
use Rattle.tables_sql.proofs.Orders.{numbered_total, numbered_antisymmetric, session_path_total}
use Rattle.tables_sql.proofs.Orders.{session_path_antisymmetric}
use Rattle.tables_sql.proofs.Truths.{and_so}
use Rattle.tables_sql.proofs.FurtherTables.{pieces_once, temp_roots_once, pieces_held, temp_roots_held, if_any_free}
use Rattle.tables_sql.proofs.MappedRows.{row_of, HasOneRowEach, entry_of}
use Rattle.tables_sql.proofs.ReadableMaps.{Rows, OfPieces, OfTempRoots, readable_by_maps}
use Rattle.tables_sql.proofs.ReadableValues.{utf8_of, readable_of, readable_int, blob_readable}
use Rattle.tables_sql.proofs.Typed.{pieces_typed, temp_roots_typed}

module _ (rows : List Row) (typed : (row : Row) → Has rows row → is_piece row ≡ true) where
  pieces_readable : HasOneRowEach numbered_total numbered_antisymmetric is_piece piece_of rows
      → Rows 3 rows ↔ OfPieces (map_of numbered_cmp is_piece piece_of rows)
  pieces_readable once = (
    λ h base n content got.
        let r = row_of numbered_total numbered_antisymmetric is_piece piece_of rows (base, n) content got in
        subst IsUtf8 (ap (λ e. e.0.0) r.3)
        (utf8_of (column r.0 1) (and_so _ _ (and_so _ _ r.2).0).0 (h r.0 0 r.1 (omega arith))),
    λ h row at present low. columns row present
        (h _ _ _ (entry_of numbered_total numbered_antisymmetric is_piece piece_of rows once row present
        (typed row present))) at low,
  )
    where
      columns : (row : Row) → Has rows row → IsUtf8 (bytes (column row 1)) → (at : ℕ) → at < 3
          → IsReadable (column row (at + 1))
      columns row present one zero low =
          readable_of (column row 1) (and_so _ _ (and_so _ _ (typed row present)).0).0 one
      columns row present one (suc zero) low =
          readable_int (column row 2) (and_so (is_text (column row 1)) (is_int (column row 2))
          (and_so (is_text (column row 1) && is_int (column row 2)) _ (typed row present)).0).1
      columns row present one (suc (suc zero)) low = blob_readable (column row 3) (and_so _ _ (typed row present)).1
      columns row present one (suc (suc (suc at))) low = absurd (omega (arith, low))

module _ (rows : List Row) (typed : (row : Row) → Has rows row → is_session_path row ≡ true) where
  temp_roots_readable : HasOneRowEach session_path_total session_path_antisymmetric is_session_path session_path_of rows
      → Rows 3 rows ↔ OfTempRoots (map_of session_path_cmp is_session_path session_path_of rows)
  temp_roots_readable once = (
    λ h owner n target got.
        let r =
        row_of session_path_total session_path_antisymmetric is_session_path session_path_of rows (owner, n, target)
        tt got in
        let whole = and_so _ _ r.2 in (
          subst IsUtf8 (ap (λ e. e.0.0) r.3)
              (utf8_of (column r.0 1) (and_so _ _ whole.0).0 (h r.0 0 r.1 (omega arith))),
          subst IsUtf8 (ap (λ e. e.0.2) r.3) (utf8_of (column r.0 3) whole.1 (h r.0 2 r.1 (omega arith))),
        ),
    λ h row at present low. let both =
        h _ _ _ (entry_of session_path_total session_path_antisymmetric is_session_path session_path_of rows once row
        present (typed row present)) in columns row present both.0 both.1 at low,
  )
    where
      columns : (row : Row) → Has rows row → IsUtf8 (bytes (column row 1)) → IsUtf8 (bytes (column row 3)) → (at : ℕ)
          → at < 3 → IsReadable (column row (at + 1))
      columns row present one three zero low =
          readable_of (column row 1) (and_so _ _ (and_so _ _ (typed row present)).0).0 one
      columns row present one three (suc zero) low =
          readable_int (column row 2) (and_so (is_text (column row 1)) (is_int (column row 2))
          (and_so (is_text (column row 1) && is_int (column row 2)) _ (typed row present)).0).1
      columns row present one three (suc (suc zero)) low =
          readable_of (column row 3) (and_so _ _ (typed row present)).1 three
      columns row present one three (suc (suc (suc at))) low = absurd (omega (arith, low))

module _ (db : Database) (sound : IsDatabase db) where
  -- where they are there
  pub pieces_by_maps : IsIntact db.schema piece → IsKeyed (rows_named db piece.name)
      → AreReadableRows piece (rows_named db piece.name) ↔ OfPieces (contents_of db).pieces
  pieces_by_maps exists keyed =
      subst (λ (m : finite.FinMap numbered_cmp Bytes). AreReadableRows piece (rows_named db piece.name) ↔ OfPieces m)
      (sym (pieces_held db exists))
      (pieces_readable (rows_named db piece.name) (pieces_typed db sound exists) (pieces_once db sound exists keyed))

  pub temp_roots_by_maps : IsIntact db.schema temp_root → IsKeyed (rows_named db temp_root.name)
      → AreReadableRows temp_root (rows_named db temp_root.name) ↔ OfTempRoots (contents_of db).temp_roots
  temp_roots_by_maps exists keyed =
      subst (λ (m : finite.FinMap session_path_cmp (Unit {0})). AreReadableRows temp_root (rows_named db temp_root.name)
      ↔ OfTempRoots m) (sym (temp_roots_held db exists))
      (temp_roots_readable (rows_named db temp_root.name) (temp_roots_typed db sound exists)
      (temp_roots_once db sound exists keyed))

-- where they don't, there are no texts
module _ (db : Database) where
  pub no_pieces : IsFree db.schema piece.name → ⊤ ↔ OfPieces (contents_of db).pieces
  unfolding map_of
  no_pieces free = (
    λ _ base n content got.
        absurd (let e = sym (ap (λ rows. finite.get (map_of numbered_cmp is_piece piece_of rows) (base, n))
        (if_any_free db piece.name free) ∙ finite.get-from_entries numbered_total [] (base, n)) ∙ got in cc),
    λ _. tt,
  )

  pub no_temp_roots : IsFree db.schema temp_root.name → ⊤ ↔ OfTempRoots (contents_of db).temp_roots
  unfolding map_of
  no_temp_roots free = (
    λ _ owner n target got.
        absurd (let e = sym (ap (λ rows. finite.get (map_of session_path_cmp is_session_path session_path_of rows)
        (owner, n, target)) (if_any_free db temp_root.name free)
        ∙ finite.get-from_entries session_path_total [] (owner, n, target)) ∙ got in cc),
    λ _. tt,
  )

-- the texts of all eleven can be read
pub whole_readable : (db : Database) → IsWhole db → AreReadable (contents_of db)
whole_readable db whole =
    let of_store = whole.of_store in
    (readable_by_maps db of_store.sound of_store.has of_store.keyed _ _
    (pieces_by_maps db of_store.sound whole.pieces.exists whole.pieces.keyed)
    (temp_roots_by_maps db of_store.sound whole.temp_roots.exists whole.temp_roots.keyed)).0
    (of_store.readable, whole.pieces.readable, whole.temp_roots.readable)
