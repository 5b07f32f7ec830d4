-- The further tables where they are there: their rows are of their kind, no two have one key or one rowid, each text in
-- them is UTF-8, and what the store's tables hold after a write to one.
use Rattle.std.proofs.Common.{◌≡◌, List, [], true, ◌&&◌, Option, Some, refl, sym, ap, subst, ◌∙◌}
use Rattle.std.specs.Prelude.{slice_get, option_and_then, option_map, unwrap_or}
use Rattle.std.specs.FinMap as finite
use Rattle.sqlite_value.specs.Order.{Row, column}
use Rattle.sqlite_trees.specs.View.{is_int}
use Rattle.sqlite_schema.specs.declared.schema.Schema.{Schema}
use Rattle.sqlite_schema.specs.declared.schema.Table.{Table}
use Rattle.sqlite_schema.specs.Names.{same_name, table_named}
use Rattle.sqlite.specs.Effect.{Database, IsDatabase}
use Rattle.sqlite.specs.State.{State}
use Rattle.tables_schema.specs.Forms.{piece, temp_root}
use Rattle.tables_schema.specs.Intact.{IsIntact, HasTables, tree_named}
use Rattle.tables_schema.specs.Presence.{IsFree}
use Rattle.tables_sql.specs.Contents.{Bytes, contents_of, rows_named, rows_if_any, map_of, numbered_cmp}
use Rattle.tables_sql.specs.Contents.{session_path_cmp, is_text, is_piece, piece_of, is_session_path, session_path_of}
use Rattle.tables_sql.specs.Calls.{IsKeyed, IsStoreDatabase, HasFurther}
use Rattle.tables_sql.proofs.Finds.{found_by_place}
use Rattle.tables_sql.proofs.Orders.{numbered_total, numbered_antisymmetric, session_path_total}
use Rattle.tables_sql.proofs.Orders.{session_path_antisymmetric}
use Rattle.tables_sql.proofs.Rising.{AreKept}
use Rattle.tables_sql.proofs.Truths.{and_so}
use Rattle.tables_sql.proofs.Writes.{SetsRows}
use Rattle.tables_sql.proofs.MappedRows.{HasOneRowEach}
use Rattle.tables_sql.proofs.ContentsLemmas.{after_write}
use Rattle.tables_sql.proofs.Places.{own_rows, if_any_kept}
use Rattle.tables_sql.proofs.Typed.{pieces_typed, temp_roots_typed}
use Rattle.tables_sql.proofs.UniqueKeys.{texts_equal, ints_equal, agree_two, agree_three, one_key}

module _ (db : Database) (sound : IsDatabase db) where
  pub pieces_once : IsIntact db.schema piece → IsKeyed (rows_named db piece.name)
      → HasOneRowEach numbered_total numbered_antisymmetric is_piece piece_of (rows_named db piece.name)
  pieces_once exists keyed a b here present ka kb same =
      one_key db sound piece.name piece.columns piece.primary exists keyed a b here present
      (agree_two a b 1 2 (texts_equal (column a 1) (column b 1) (key a ka).0 (key b kb).0 (ap (λ k. k.0) same))
      (ints_equal (column a 2) (column b 2) (key a ka).1 (key b kb).1 (ap (λ k. k.1) same)))
    where
      key : (r : Row) → is_piece r ≡ true → (is_text (column r 1) ≡ true) × (is_int (column r 2) ≡ true)
      key r k = and_so _ _ (and_so (is_text (column r 1) && is_int (column r 2)) _ k).0

  pub temp_roots_once : IsIntact db.schema temp_root → IsKeyed (rows_named db temp_root.name)
      → HasOneRowEach session_path_total session_path_antisymmetric is_session_path session_path_of
      (rows_named db temp_root.name)
  temp_roots_once exists keyed a b here present ka kb same =
      one_key db sound temp_root.name temp_root.columns temp_root.primary exists keyed a b here present
      (agree_three a b 1 2 3 (texts_equal (column a 1) (column b 1) (front a ka).0 (front b kb).0 (ap (λ k. k.0) same))
      (ints_equal (column a 2) (column b 2) (front a ka).1 (front b kb).1 (ap (λ k. k.1) same))
      (texts_equal (column a 3) (column b 3) (and_so _ _ ka).1 (and_so _ _ kb).1 (ap (λ k. k.2) same)))
    where
      front : (r : Row) → is_session_path r ≡ true → (is_text (column r 1) ≡ true) × (is_int (column r 2) ≡ true)
      front r k = and_so _ _ (and_so (is_text (column r 1) && is_int (column r 2)) _ k).0

module _ (db : Database) (of_store : IsStoreDatabase db) where
  pub piece_kept : HasFurther db piece → AreKept is_piece (λ r. (piece_of r).0) 3 (rows_named db piece.name)
  piece_kept it =
      record {
        typed = pieces_typed db of_store.sound it.exists;
        once = pieces_once db of_store.sound it.exists it.keyed;
        distinct_rowids = it.keyed.distinct_rowids;
        readable = it.readable;
      }

  pub temp_root_kept : HasFurther db temp_root
      → AreKept is_session_path (λ r. (session_path_of r).0) 3 (rows_named db temp_root.name)
  temp_root_kept it =
      record {
        typed = temp_roots_typed db of_store.sound it.exists;
        once = temp_roots_once db of_store.sound it.exists it.keyed;
        distinct_rowids = it.keyed.distinct_rowids;
        readable = it.readable;
      }

-- where a table is there, its rows are those of the first table of its name
pub if_any_named : (db : Database) (t : Table) → IsIntact db.schema t → rows_if_any db t.name ≡ rows_named db t.name
unfolding rows_if_any
if_any_named db t exists =
    ap (λ (o : Option Table). unwrap_or (option_map (λ (x : Table). db.trees x.tree) o) [])
    (sym (found_by_place (λ (x : Table). same_name x.name t.name) db.schema.tables) ∙ present)
    ∙ sym (ap db.trees (ap (λ (o : Option Table). unwrap_or (option_map (λ (x : Table). x.tree) o) 0) present))
  where
    present : option_and_then (slice_get db.schema.tables) (table_named db.schema t.name)
        ≡ Some (record t { tree = tree_named db.schema t.name })
    present = ap (option_and_then (slice_get db.schema.tables)) exists.known.named.0 ∙ exists.known.named.1

-- where the name is free, there are none
pub if_any_free : (db : Database) (name : Bytes) → IsFree db.schema name → rows_if_any db name ≡ []
unfolding rows_if_any
if_any_free db name free =
    ap (λ (o : Option Table). unwrap_or (option_map (λ (x : Table). db.trees x.tree) o) [])
    (sym (found_by_place (λ (x : Table). same_name x.name name) db.schema.tables)
    ∙ ap (option_and_then (slice_get db.schema.tables)) free.table)

pub pieces_held : (db : Database) → IsIntact db.schema piece
    → (contents_of db).pieces ≡ map_of numbered_cmp is_piece piece_of (rows_named db piece.name)
pieces_held db exists = ap (map_of numbered_cmp is_piece piece_of) (if_any_named db piece exists)

pub temp_roots_held : (db : Database) → IsIntact db.schema temp_root
    → (contents_of db).temp_roots ≡ map_of session_path_cmp is_session_path session_path_of
    (rows_named db temp_root.name)
temp_roots_held db exists =
    ap (map_of session_path_cmp is_session_path session_path_of) (if_any_named db temp_root exists)

-- ---- after a write

own_if_any : (a : Table) (old new : State) (rows : List Row) (exists : IsIntact old.now.schema a)
    → SetsRows old new (tree_named old.now.schema a.name) rows → rows_if_any new.now a.name ≡ rows
own_if_any a old new rows exists sets =
    if_any_named new.now a (subst (λ (s : Schema). IsIntact s a) (sym sets.schema) exists)
    ∙ own_rows a old new rows exists sets

module _ (old new : State) (has : HasTables old.now.schema) (rows : List Row) where
  pub pieces_set : (exists : IsIntact old.now.schema piece)
      → SetsRows old new (tree_named old.now.schema piece.name) rows → (m : finite.FinMap numbered_cmp Bytes)
      → map_of numbered_cmp is_piece piece_of rows ≡ m
      → contents_of new.now ≡ record (contents_of old.now) { pieces = m }
  unfolding same_name
  pieces_set exists sets m is =
      after_write old new has rows piece exists sets rows (rows_if_any old.now temp_root.name)
      (own_if_any piece old new rows exists sets) (if_any_kept piece old new rows exists sets temp_root.name refl)
      ∙ ap (λ x. record (contents_of old.now) { pieces = x }) is

  pub temp_roots_set : (exists : IsIntact old.now.schema temp_root)
      → SetsRows old new (tree_named old.now.schema temp_root.name) rows
      → (m : finite.FinMap session_path_cmp (Unit {0}))
      → map_of session_path_cmp is_session_path session_path_of rows ≡ m
      → contents_of new.now ≡ record (contents_of old.now) { temp_roots = m }
  unfolding same_name
  temp_roots_set exists sets m is =
      after_write old new has rows temp_root exists sets (rows_if_any old.now piece.name) rows
      (if_any_kept temp_root old new rows exists sets piece.name refl) (own_if_any temp_root old new rows exists sets)
      ∙ ap (λ x. record (contents_of old.now) { temp_roots = x }) is
