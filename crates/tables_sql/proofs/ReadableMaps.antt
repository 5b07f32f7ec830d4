-- The texts of the rows are UTF-8 if and only if those of the maps are that the rows make.
use Rattle.std.proofs.Common.{◌≡◌, ◌↔◌, ℕ, ℤ, zero, suc, ◌+◌, ◌<◌, List, [], ◌∷◌, Bool, true, ◌&&◌, Some, Option, codes}
use Rattle.std.proofs.Common.{refl, sym, ap, subst, ◌∙◌, arith}
use Rattle.std.specs.Prelude.{IsUtf8, IfSome}
use Rattle.std.specs.FinMap as finite
use Rattle.std.specs.List.{AllByRecursion}
use Rattle.sqlite_value.specs.Order.{Row, column, bytes}
use Rattle.sqlite_trees.specs.View.{is_int}
use Rattle.sqlite_rules.specs.Lists.{Has}
use Rattle.sqlite_value.specs.Keys.{plain}
use Rattle.sqlite_schema.specs.Rules.{agree}
use Rattle.sqlite.specs.Effect.{Database, IsDatabase}
use Rattle.tables_schema.specs.Forms.{meta, object, refs, outs, permanent, user_root, profile, generation, runtime}
use Rattle.tables_schema.specs.Forms.{store_tables}
use Rattle.tables_schema.specs.Intact.{HasTables}
use Rattle.tables_sql.specs.Contents.{Bytes, Stored, contents_of, texts_cmp, pair_cmp, triple_cmp, numbered_cmp}
use Rattle.tables_sql.specs.Contents.{session_path_cmp, is_text, text_if_any, is_pair, pair_of, member_of, is_triple}
use Rattle.tables_sql.specs.Contents.{target_of, is_profile, profile_of, is_generation, generation_of, is_object}
use Rattle.tables_sql.specs.Contents.{object_of, map_of, rows_named}
use Rattle.tables_sql.specs.Texts.{IsReadable, AreReadable, HasReadableRows}
use Rattle.tables_sql.specs.Calls.{IsKeyed}
use Rattle.tables_sql.proofs.Orders.{texts_total, texts_antisymmetric, pair_total, pair_antisymmetric, triple_total}
use Rattle.tables_sql.proofs.Orders.{triple_antisymmetric}
use Rattle.tables_sql.proofs.Truths.{and_so}
use Rattle.tables_sql.proofs.Typed.{objects_typed, base_is, pairs_typed, triples_typed, profiles_typed}
use Rattle.tables_sql.proofs.Typed.{generations_typed}
use Rattle.tables_sql.proofs.UniqueKeys.{texts_equal, ints_equal, agree_one, agree_two, agree_three, one_key}
use Rattle.tables_sql.proofs.MappedRows.{row_of, HasOneRowEach, entry_of}
use Rattle.tables_sql.proofs.ReadableValues.{utf8_of, readable_of, readable_int, blob_readable, utf8_if, readable_if}

-- each text in the keys of pieces is UTF-8, and each in those of temporary roots
abbrev pub OfPieces : finite.FinMap numbered_cmp Bytes → Type 0
OfPieces m = (base : Bytes) (n : ℤ) (bytes : Bytes) → finite.get m (base, n) ≡ Some bytes → IsUtf8 base

abbrev pub OfTempRoots : finite.FinMap session_path_cmp (Unit {0}) → Type 0
OfTempRoots m =
    (owner : Bytes) (n : ℤ) (target : Bytes) → finite.get m (owner, n, target) ≡ Some tt → IsUtf8 owner × IsUtf8 target

-- each text in the first N columns of each row
abbrev pub Rows : ℕ → List Row → Type 0
Rows n rows = (row : Row) (at : ℕ) → Has rows row → at < n → IsReadable (column row (at + 1))

-- ---- two texts

module _ (rows : List Row) (typed : (row : Row) → Has rows row → is_pair row ≡ true) where
  two_columns : (row : Row) → Has rows row → IsUtf8 (bytes (column row 1)) → IsUtf8 (bytes (column row 2)) → (at : ℕ)
      → at < 2 → IsReadable (column row (at + 1))
  two_columns row present one two zero low = readable_of (column row 1) (and_so _ _ (typed row present)).0 one
  two_columns row present one two (suc zero) low = readable_of (column row 2) (and_so _ _ (typed row present)).1 two
  two_columns row present one two (suc (suc at)) low = absurd (omega (arith, low))

  columns_two : Rows 2 rows → (row : Row) → Has rows row → IsUtf8 (bytes (column row 1)) × IsUtf8 (bytes (column row 2))
  columns_two h row present = (
    utf8_of (column row 1) (and_so _ _ (typed row present)).0 (h row 0 present (omega arith)),
    utf8_of (column row 2) (and_so _ _ (typed row present)).1 (h row 1 present (omega arith)),
  )

  pub map_readable : HasOneRowEach texts_total texts_antisymmetric is_pair pair_of rows
      → Rows 2 rows ↔ ((k v : Bytes) → finite.get (map_of texts_cmp is_pair pair_of rows) k ≡ Some v
      → IsUtf8 k × IsUtf8 v)
  map_readable once = (
    λ h k v got. let r = row_of texts_total texts_antisymmetric is_pair pair_of rows k v got in let both =
        columns_two h r.0 r.1 in (subst IsUtf8 (ap (λ e. e.0) r.3) both.0, subst IsUtf8 (ap (λ e. e.1) r.3) both.1),
    λ h row at present low. let both =
        h _ _ (entry_of texts_total texts_antisymmetric is_pair pair_of rows once row present (typed row present)) in
        two_columns row present both.0 both.1 at low,
  )

  pub set_readable : HasOneRowEach pair_total pair_antisymmetric is_pair member_of rows
      → Rows 2 rows ↔ ((a b : Bytes) → finite.get (map_of pair_cmp is_pair member_of rows) (a, b) ≡ Some tt
      → IsUtf8 a × IsUtf8 b)
  set_readable once = (
    λ h a b got. let r = row_of pair_total pair_antisymmetric is_pair member_of rows (a, b) tt got in let both =
        columns_two h r.0 r.1 in (subst IsUtf8 (ap (λ e. e.0.0) r.3) both.0, subst IsUtf8 (ap (λ e. e.0.1) r.3) both.1),
    λ h row at present low. let both =
        h _ _ (entry_of pair_total pair_antisymmetric is_pair member_of rows once row present (typed row present)) in
        two_columns row present both.0 both.1 at low,
  )

-- ---- three texts

module _ (rows : List Row) (typed : (row : Row) → Has rows row → is_triple row ≡ true) where
  pub triples_readable : HasOneRowEach pair_total pair_antisymmetric is_triple target_of rows
      → Rows 3 rows ↔ ((a b v : Bytes) → finite.get (map_of pair_cmp is_triple target_of rows) (a, b) ≡ Some v
      → IsUtf8 a × IsUtf8 b × IsUtf8 v)
  triples_readable once = (
    λ h a b v got.
        let r = row_of pair_total pair_antisymmetric is_triple target_of rows (a, b) v got in
        let whole = and_so _ _ r.2 in
        let pair = and_so _ _ whole.0 in (
          subst IsUtf8 (ap (λ e. e.0.0) r.3) (utf8_of (column r.0 1) pair.0 (h r.0 0 r.1 (omega arith))),
          subst IsUtf8 (ap (λ e. e.0.1) r.3) (utf8_of (column r.0 2) pair.1 (h r.0 1 r.1 (omega arith))),
          subst IsUtf8 (ap (λ e. e.1) r.3) (utf8_of (column r.0 3) whole.1 (h r.0 2 r.1 (omega arith))),
        ),
    λ h row at present low. let all =
        h _ _ _ (entry_of pair_total pair_antisymmetric is_triple target_of rows once row present
        (typed row present)) in columns row present all.0 all.1 all.2 at low,
  )
    where
      columns : (row : Row) → Has rows row → IsUtf8 (bytes (column row 1)) → IsUtf8 (bytes (column row 2))
          → IsUtf8 (bytes (column row 3)) → (at : ℕ) → at < 3 → IsReadable (column row (at + 1))
      columns row present one two three zero low =
          readable_of (column row 1) (and_so _ _ (and_so _ _ (typed row present)).0).0 one
      columns row present one two three (suc zero) low =
          readable_of (column row 2) (and_so _ _ (and_so _ _ (typed row present)).0).1 two
      columns row present one two three (suc (suc zero)) low =
          readable_of (column row 3) (and_so _ _ (typed row present)).1 three
      columns row present one two three (suc (suc (suc at))) low = absurd (omega (arith, low))

-- ---- a profile, a generation, an object

module _ (rows : List Row) (typed : (row : Row) → Has rows row → is_profile row ≡ true) where
  pub profiles_readable : HasOneRowEach pair_total pair_antisymmetric is_profile profile_of rows
      → Rows 3 rows ↔ ((a b : Bytes) (n : ℤ) → finite.get (map_of pair_cmp is_profile profile_of rows) (a, b) ≡ Some n
      → IsUtf8 a × IsUtf8 b)
  profiles_readable once = (
    λ h a b n got.
        let r = row_of pair_total pair_antisymmetric is_profile profile_of rows (a, b) n got in
        let pair = and_so _ _ (and_so _ _ r.2).0 in (
          subst IsUtf8 (ap (λ e. e.0.0) r.3) (utf8_of (column r.0 1) pair.0 (h r.0 0 r.1 (omega arith))),
          subst IsUtf8 (ap (λ e. e.0.1) r.3) (utf8_of (column r.0 2) pair.1 (h r.0 1 r.1 (omega arith))),
        ),
    λ h row at present low. let all =
        h _ _ _ (entry_of pair_total pair_antisymmetric is_profile profile_of rows once row present
        (typed row present)) in columns row present all.0 all.1 at low,
  )
    where
      columns : (row : Row) → Has rows row → IsUtf8 (bytes (column row 1)) → IsUtf8 (bytes (column row 2)) → (at : ℕ)
          → at < 3 → IsReadable (column row (at + 1))
      columns row present one two zero low =
          readable_of (column row 1) (and_so _ _ (and_so _ _ (typed row present)).0).0 one
      columns row present one two (suc zero) low =
          readable_of (column row 2) (and_so _ _ (and_so _ _ (typed row present)).0).1 two
      columns row present one two (suc (suc zero)) low = readable_int (column row 3) (and_so _ _ (typed row present)).1
      columns row present one two (suc (suc (suc at))) low = absurd (omega (arith, low))

module _ (rows : List Row) (typed : (row : Row) → Has rows row → is_generation row ≡ true) where
  pub generations_readable : HasOneRowEach triple_total triple_antisymmetric is_generation generation_of rows
      → Rows 4 rows ↔ ((a b : Bytes) (n : ℤ) (v : Bytes)
      → finite.get (map_of triple_cmp is_generation generation_of rows) (a, b, n) ≡ Some v
      → IsUtf8 a × IsUtf8 b × IsUtf8 v)
  generations_readable once = (
    λ h a b n v got.
        let r = row_of triple_total triple_antisymmetric is_generation generation_of rows (a, b, n) v got in
        let whole = and_so _ _ r.2 in
        let pair = and_so _ _ (and_so _ _ whole.0).0 in (
          subst IsUtf8 (ap (λ e. e.0.0) r.3) (utf8_of (column r.0 1) pair.0 (h r.0 0 r.1 (omega arith))),
          subst IsUtf8 (ap (λ e. e.0.1) r.3) (utf8_of (column r.0 2) pair.1 (h r.0 1 r.1 (omega arith))),
          subst IsUtf8 (ap (λ e. e.1) r.3) (utf8_of (column r.0 4) whole.1 (h r.0 3 r.1 (omega arith))),
        ),
    λ h row at present low. let all =
        h _ _ _ _ (entry_of triple_total triple_antisymmetric is_generation generation_of rows once row present
        (typed row present)) in columns row present all.0 all.1 all.2 at low,
  )
    where
      columns : (row : Row) → Has rows row → IsUtf8 (bytes (column row 1)) → IsUtf8 (bytes (column row 2))
          → IsUtf8 (bytes (column row 4)) → (at : ℕ) → at < 4 → IsReadable (column row (at + 1))
      columns row present one two four zero low =
          readable_of (column row 1) (and_so _ _ (and_so _ _ (and_so _ _ (typed row present)).0).0).0 one
      columns row present one two four (suc zero) low =
          readable_of (column row 2) (and_so _ _ (and_so _ _ (and_so _ _ (typed row present)).0).0).1 two
      columns row present one two four (suc (suc zero)) low =
          readable_int (column row 3) (and_so _ _ (and_so _ _ (typed row present)).0).1
      columns row present one two four (suc (suc (suc zero))) low =
          readable_of (column row 4) (and_so _ _ (typed row present)).1 four
      columns row present one two four (suc (suc (suc (suc at)))) low = absurd (omega (arith, low))

module _ (rows : List Row) (typed : (row : Row) → Has rows row → is_object row ≡ true) where
  pub objects_readable : HasOneRowEach texts_total texts_antisymmetric is_object object_of rows
      → Rows 5 rows ↔ ((base : Bytes) (o : Stored)
      → finite.get (map_of texts_cmp is_object object_of rows) base ≡ Some o
      → IsUtf8 base × IfSome o.deriver IsUtf8 × IfSome o.ca IsUtf8)
  objects_readable once = (
    λ h base o got.
        let r = row_of texts_total texts_antisymmetric is_object object_of rows base o got in
        let five = and_so _ _ r.2 in
        let four = and_so _ _ five.0 in
        let one = and_so _ _ (and_so _ _ four.0).0 in (
          subst IsUtf8 (ap (λ e. e.0) r.3) (utf8_of (column r.0 1) one.0 (h r.0 0 r.1 (omega arith))),
          subst (λ (d : Option Bytes). IfSome d IsUtf8) (ap (λ e. e.1.deriver) r.3)
              (utf8_if (column r.0 4) four.1 (h r.0 3 r.1 (omega arith))),
          subst (λ (d : Option Bytes). IfSome d IsUtf8) (ap (λ e. e.1.ca) r.3)
              (utf8_if (column r.0 5) five.1 (h r.0 4 r.1 (omega arith))),
        ),
    λ h row at present low. let all =
        h _ _ (entry_of texts_total texts_antisymmetric is_object object_of rows once row present
        (typed row present)) in columns row present all.0 all.1 all.2 at low,
  )
    where
      columns : (row : Row) → Has rows row → IsUtf8 (bytes (column row 1)) → IfSome (text_if_any (column row 4)) IsUtf8
          → IfSome (text_if_any (column row 5)) IsUtf8 → (at : ℕ) → at < 5 → IsReadable (column row (at + 1))
      columns row present one four five zero low =
          readable_of (column row 1) (and_so _ _ (and_so _ _ (and_so _ _ (and_so _ _ (typed row present)).0).0).0).0 one
      columns row present one four five (suc zero) low =
          blob_readable (column row 2) (and_so _ _ (and_so _ _ (and_so _ _ (and_so _ _ (typed row present)).0).0).0).1
      columns row present one four five (suc (suc zero)) low =
          blob_readable (column row 3) (and_so _ _ (and_so _ _ (and_so _ _ (typed row present)).0).0).1
      columns row present one four five (suc (suc (suc zero))) low = readable_if (column row 4) four
      columns row present one four five (suc (suc (suc (suc zero)))) low = readable_if (column row 5) five
      columns row present one four five (suc (suc (suc (suc (suc at))))) low = absurd (omega (arith, low))

-- ---- all nine

module _ (db : Database) (sound : IsDatabase db) (has : HasTables db.schema)
    (keyed : AllByRecursion (λ t. IsKeyed (rows_named db t.name)) store_tables) where
  pub meta_typed : (row : Row) → Has (rows_named db meta.name) row → is_pair row ≡ true
  meta_typed = pairs_typed db sound meta.name (codes "word") (codes "val") meta.primary has.0

  pub object_typed : (row : Row) → Has (rows_named db object.name) row → is_object row ≡ true
  object_typed = objects_typed db sound has.1.0

  pub refs_typed : (row : Row) → Has (rows_named db refs.name) row → is_pair row ≡ true
  refs_typed = pairs_typed db sound refs.name (codes "base") (codes "target") refs.primary has.1.1.0

  pub outs_typed : (row : Row) → Has (rows_named db outs.name) row → is_triple row ≡ true
  outs_typed = triples_typed db sound outs.name (codes "base") (codes "name") (codes "target") outs.primary has.1.1.1.0

  pub permanent_typed : (row : Row) → Has (rows_named db permanent.name) row → is_pair row ≡ true
  permanent_typed = pairs_typed db sound permanent.name (codes "name") (codes "target") permanent.primary has.1.1.1.1.0

  pub user_root_typed : (row : Row) → Has (rows_named db user_root.name) row → is_triple row ≡ true
  user_root_typed =
      triples_typed db sound user_root.name (codes "owner") (codes "name") (codes "target") user_root.primary
      has.1.1.1.1.1.0

  pub profile_typed : (row : Row) → Has (rows_named db profile.name) row → is_profile row ≡ true
  profile_typed =
      profiles_typed db sound profile.name (codes "owner") (codes "name") (codes "cur") profile.primary
      has.1.1.1.1.1.1.0

  pub generation_typed : (row : Row) → Has (rows_named db generation.name) row → is_generation row ≡ true
  generation_typed =
      generations_typed db sound generation.name (codes "owner") (codes "name") (codes "num") (codes "target")
      generation.primary has.1.1.1.1.1.1.1.0

  pub runtime_typed : (row : Row) → Has (rows_named db runtime.name) row → is_pair row ≡ true
  runtime_typed =
      pairs_typed db sound runtime.name (codes "label") (codes "target") runtime.primary has.1.1.1.1.1.1.1.1.0

  pub meta_once : HasOneRowEach texts_total texts_antisymmetric is_pair pair_of (rows_named db meta.name)
  meta_once a b here present ka kb same =
      one_key db sound meta.name meta.columns meta.primary has.0 keyed.0 a b here present
      (agree_one a b 1 (texts_equal (column a 1) (column b 1) (and_so _ _ ka).0 (and_so _ _ kb).0 same))

  pub object_once : HasOneRowEach texts_total texts_antisymmetric is_object object_of (rows_named db object.name)
  object_once a b here present ka kb same =
      one_key db sound object.name object.columns object.primary has.1.0 keyed.1.0 a b here present
      (agree_one a b 1 (texts_equal (column a 1) (column b 1) (base_is a ka) (base_is b kb) same))

  pair_once : {X : Type 0} (name : Bytes) (kind : Row → Bool) (entry : Row → (Bytes × Bytes) × X)
      → ((r : Row) → kind r ≡ true → is_pair r ≡ true)
      → ((r : Row) → (entry r).0 ≡ (bytes (column r 1), bytes (column r 2)))
      → ((a b : Row) → Has (rows_named db name) a → Has (rows_named db name) b
      → agree plain (1 ∷ 2 ∷ []) a (1 ∷ 2 ∷ []) b ≡ true → a ≡ b)
      → HasOneRowEach pair_total pair_antisymmetric kind entry (rows_named db name)
  pair_once name kind entry is_one key one a b here present ka kb same =
      let e = sym (key a) ∙ same ∙ key b in
      one a b here present (agree_two a b 1 2
      (texts_equal (column a 1) (column b 1) (and_so _ _ (is_one a ka)).0 (and_so _ _ (is_one b kb)).0
      (ap (λ p. p.0) e)) (texts_equal (column a 2) (column b 2) (and_so _ _ (is_one a ka)).1
      (and_so _ _ (is_one b kb)).1 (ap (λ p. p.1) e)))

  pub generation_once : HasOneRowEach triple_total triple_antisymmetric is_generation generation_of
      (rows_named db generation.name)
  generation_once a b here present ka kb same =
      one_key db sound generation.name generation.columns generation.primary has.1.1.1.1.1.1.1.0 keyed.1.1.1.1.1.1.1.0 a
      b here present
      (agree_three a b 1 2 3 (texts_equal (column a 1) (column b 1) (pair a ka).0 (pair b kb).0 (ap (λ t. t.0) same))
      (texts_equal (column a 2) (column b 2) (pair a ka).1 (pair b kb).1 (ap (λ t. t.1) same))
      (ints_equal (column a 3) (column b 3) (number a ka) (number b kb) (ap (λ t. t.2) same)))
    where
      pair : (r : Row) → is_generation r ≡ true → (is_text (column r 1) ≡ true) × (is_text (column r 2) ≡ true)
      pair r k = and_so _ _ (and_so _ _ (and_so _ _ k).0).0

      number : (r : Row) → is_generation r ≡ true → is_int (column r 3) ≡ true
      number r k =
          (and_so (is_pair r) (is_int (column r 3))
          (and_so (is_pair r && is_int (column r 3)) (is_text (column r 4)) k).0).1

  pub permanent_once : HasOneRowEach texts_total texts_antisymmetric is_pair pair_of (rows_named db permanent.name)
  permanent_once a b here present ka kb same =
      one_key db sound permanent.name permanent.columns permanent.primary has.1.1.1.1.0 keyed.1.1.1.1.0 a b here present
      (agree_one a b 1 (texts_equal (column a 1) (column b 1) (and_so _ _ ka).0 (and_so _ _ kb).0 same))

  pub refs_once : HasOneRowEach pair_total pair_antisymmetric is_pair member_of (rows_named db refs.name)
  refs_once =
      pair_once refs.name is_pair member_of (λ r k. k) (λ r. refl)
      (one_key db sound refs.name refs.columns refs.primary has.1.1.0 keyed.1.1.0)

  pub outs_once : HasOneRowEach pair_total pair_antisymmetric is_triple target_of (rows_named db outs.name)
  outs_once =
      pair_once outs.name is_triple target_of (λ r k. (and_so _ _ k).0) (λ r. refl)
      (one_key db sound outs.name outs.columns outs.primary has.1.1.1.0 keyed.1.1.1.0)

  pub user_root_once : HasOneRowEach pair_total pair_antisymmetric is_triple target_of (rows_named db user_root.name)
  user_root_once =
      pair_once user_root.name is_triple target_of (λ r k. (and_so _ _ k).0) (λ r. refl)
      (one_key db sound user_root.name user_root.columns user_root.primary has.1.1.1.1.1.0 keyed.1.1.1.1.1.0)

  pub profile_once : HasOneRowEach pair_total pair_antisymmetric is_profile profile_of (rows_named db profile.name)
  profile_once =
      pair_once profile.name is_profile profile_of (λ r k. (and_so _ _ k).0) (λ r. refl)
      (one_key db sound profile.name profile.columns profile.primary has.1.1.1.1.1.1.0 keyed.1.1.1.1.1.1.0)

  pub runtime_once : HasOneRowEach pair_total pair_antisymmetric is_pair member_of (rows_named db runtime.name)
  runtime_once =
      pair_once runtime.name is_pair member_of (λ r k. k) (λ r. refl)
      (one_key db sound runtime.name runtime.columns runtime.primary has.1.1.1.1.1.1.1.1.0 keyed.1.1.1.1.1.1.1.1.0)

  -- the texts of the rows, and those of the maps, where it is known of the further tables what says it of theirs
  pub readable_by_maps : (P Q : Type 0) → P ↔ OfPieces (contents_of db).pieces
      → Q ↔ OfTempRoots (contents_of db).temp_roots → (HasReadableRows db × P × Q) ↔ AreReadable (contents_of db)
  unfolding HasReadableRows
  readable_by_maps P Q pieces temp_roots = (
    λ all. let h = all.0 in record {
      meta = (map_readable (rows_named db meta.name) meta_typed meta_once).0 h.0;
      objects = (objects_readable (rows_named db object.name) object_typed object_once).0 h.1.0;
      refs = (set_readable (rows_named db refs.name) refs_typed refs_once).0 h.1.1.0;
      outs = (triples_readable (rows_named db outs.name) outs_typed outs_once).0 h.1.1.1.0;
      permanent = (map_readable (rows_named db permanent.name) permanent_typed permanent_once).0 h.1.1.1.1.0;
      user_roots = (triples_readable (rows_named db user_root.name) user_root_typed user_root_once).0 h.1.1.1.1.1.0;
      profiles = (profiles_readable (rows_named db profile.name) profile_typed profile_once).0 h.1.1.1.1.1.1.0;
      generations =
          (generations_readable (rows_named db generation.name) generation_typed generation_once).0 h.1.1.1.1.1.1.1.0;
      runtime = (set_readable (rows_named db runtime.name) runtime_typed runtime_once).0 h.1.1.1.1.1.1.1.1.0;
      pieces = pieces.0 all.1;
      temp_roots = temp_roots.0 all.2;
    },
    λ c. (
      (
        (map_readable (rows_named db meta.name) meta_typed meta_once).1 c.meta,
        (
          (objects_readable (rows_named db object.name) object_typed object_once).1 c.objects,
          (
            (set_readable (rows_named db refs.name) refs_typed refs_once).1 c.refs,
            (
              (triples_readable (rows_named db outs.name) outs_typed outs_once).1 c.outs,
              (
                (map_readable (rows_named db permanent.name) permanent_typed permanent_once).1 c.permanent,
                (
                  (triples_readable (rows_named db user_root.name) user_root_typed user_root_once).1 c.user_roots,
                  (
                    (profiles_readable (rows_named db profile.name) profile_typed profile_once).1 c.profiles,
                    (
                      (generations_readable (rows_named db generation.name) generation_typed generation_once).1
                          c.generations,
                      (
                        (set_readable (rows_named db runtime.name) runtime_typed runtime_once).1
                            c.runtime,
                        tt,
                      ),
                    ),
                  ),
                ),
              ),
            ),
          ),
        ),
      ),
      pieces.1 c.pieces,
      temp_roots.1 c.temp_roots,
    ),
  )
