-- No two rows of a table of the store have one key, as a database that obeys its schema has them.
use Rattle.std.proofs.Common.{◌≡◌, ℕ, List, [], ◌∷◌, Bool, true, false, not, ◌&&◌, IsTrue, refl, sym, ap, ◌∙◌, arith}
use Rattle.std.proofs.lemmas.Bool.Decides.{nat_tests}
use Rattle.std.specs.declared.cmp.Ordering.{Ordering}
use Rattle.std.specs.declared.cmp.Ordering.TheVariants.{Less, Equal, Greater}
use Rattle.std.specs.Ordering.{is_eq, is_ne, eq_by_cmp, int_cmp}
use Rattle.std.specs.Cmp.{tied_itself, int_cmp_total}
use Rattle.std.specs.List.{AllByRecursion}
use Rattle.sqlite_value.specs.declared.value.Value.{Value}
use Rattle.sqlite_value.specs.declared.value.Value.TheVariants.{Null, Int, Real, Text, Blob}
use Rattle.sqlite_value.specs.declared.keys.Collation.TheVariants.{Binary}
use Rattle.sqlite_value.specs.Keys.{plain, first_key}
use Rattle.sqlite_value.specs.Order.{Row, column, bytes, value_cmp}
use Rattle.sqlite_trees.specs.Tree.{rowid}
use Rattle.sqlite_trees.specs.View.{is_int}
use Rattle.sqlite_trees.proofs.ListLemmas.{all-slice_get}
use Rattle.sqlite_rules.specs.Lists.{Has}
use Rattle.sqlite_rules.specs.Edit.{id_in}
use Rattle.sqlite_rules.proofs.ListLemmas.{all_has, test_has, some_from}
use Rattle.sqlite_sql.specs.Ops.{binary}
use Rattle.sqlite_schema.specs.declared.schema.Column.{Column}
use Rattle.sqlite_schema.specs.declared.schema.Table.{Table}
use Rattle.sqlite_schema.specs.declared.schema.Index.{Index}
use Rattle.sqlite_schema.specs.declared.schema.Constraint.TheVariants.{Unique}
use Rattle.sqlite_schema.specs.Rules.{passes, agree, clashes, differ, equal, guards}
use Rattle.sqlite_catalog.specs.Listing.{automatic, IsGuarded}
use Rattle.sqlite.specs.Effect.{Database, IsDatabase}
use Rattle.tables_schema.specs.Forms.{strict}
use Rattle.tables_schema.specs.Intact.{IsIntact, tree_named}
use Rattle.tables_sql.specs.Contents.{texts_cmp, is_text, rows_named}
use Rattle.tables_sql.specs.Calls.{IsKeyed}
use Rattle.tables_sql.proofs.Orders.{texts_total}
use Rattle.tables_sql.proofs.Distinct.{once}
use Rattle.tables_sql.proofs.Truths.{text_test, int_test, reported}

-- ---- values that are the same are equal to SQL too, and integers that don't differ are tied

pub texts_equal : (v w : Value) → is_text v ≡ true → is_text w ≡ true → bytes v ≡ bytes w → equal Binary v w ≡ true
texts_equal v Null h k e = absurd (let no = k in cc)
texts_equal v (Int n) h k e = absurd (let no = k in cc)
texts_equal v (Real x) h k e = absurd (let no = k in cc)
texts_equal v (Text t) h k e =
    text_test v t h ∙ ap (λ b. eq_by_cmp texts_cmp b t) e ∙ ap is_eq (tied_itself texts_total t)
texts_equal v (Blob b) h k e = absurd (let no = k in cc)

not_distinct : (c : Ordering) → is_ne c ≡ false → is_eq c ≡ true
not_distinct Less h = cc
not_distinct Equal h = refl
not_distinct Greater h = cc

pub ints_equal : (v w : Value) → IsTrue (is_int v) → IsTrue (is_int w) → id_in v ≡ id_in w → equal Binary v w ≡ true
ints_equal v Null h k e = absurd (let no = k in cc)
ints_equal v (Int n) h k e = int_test v n h ∙ ap (λ b. eq_by_cmp int_cmp b n) e ∙ ap is_eq (tied_itself int_cmp_total n)
ints_equal v (Real x) h k e = absurd (let no = k in cc)
ints_equal v (Text t) h k e = absurd (let no = k in cc)
ints_equal v (Blob b) h k e = absurd (let no = k in cc)

ints_tied : (v w : Value) → IsTrue (is_int v) → IsTrue (is_int w) → differ v w ≡ false → is_eq (value_cmp v w) ≡ true
unfolding binary
ints_tied Null w h k e = absurd (let no = h in cc)
ints_tied (Int m) Null h k e = absurd (let no = k in cc)
ints_tied (Int m) (Int n) h k e = not_distinct (value_cmp (Int m) (Int n)) (sym (reported _) ∙ e)
ints_tied (Int m) (Real x) h k e = absurd (let no = k in cc)
ints_tied (Int m) (Text t) h k e = absurd (let no = k in cc)
ints_tied (Int m) (Blob b) h k e = absurd (let no = k in cc)
ints_tied (Real x) w h k e = absurd (let no = h in cc)
ints_tied (Text t) w h k e = absurd (let no = h in cc)
ints_tied (Blob b) w h k e = absurd (let no = h in cc)

-- ---- a key of one, two or three columns, which compares bytes

pub binary_first : (first_key plain).collation ≡ Binary
unfolding first_key
binary_first = refl

pub agree_one : (a b : Row) (p : ℕ) → equal Binary (column a p) (column b p) ≡ true
    → agree plain (p ∷ []) a (p ∷ []) b ≡ true
agree_one a b p h = rw (binary_first, h) refl

pub agree_two : (a b : Row) (p q : ℕ) → equal Binary (column a p) (column b p) ≡ true
    → equal Binary (column a q) (column b q) ≡ true → agree plain (p ∷ q ∷ []) a (p ∷ q ∷ []) b ≡ true
agree_two a b p q h k = rw (binary_first, h, k) refl

pub agree_three : (a b : Row) (p q r : ℕ) → equal Binary (column a p) (column b p) ≡ true
    → equal Binary (column a q) (column b q) ≡ true → equal Binary (column a r) (column b r) ≡ true
    → agree plain (p ∷ q ∷ r ∷ []) a (p ∷ q ∷ r ∷ []) b ≡ true
agree_three a b p q r h k l = rw (binary_first, h, k, l) refl

-- ---- two rows of one key are one

module _ (db : Database) (sound : IsDatabase db) (name : List ℕ) (columns : List Column) (key : List ℕ)
    (exists : IsIntact db.schema (strict name columns key)) (keyed : IsKeyed (rows_named db name)) where
  own : Table
  own = record (strict name columns key) { tree = tree_named db.schema name }

  its_index : (tree : ℕ) × Has db.schema.indexes (automatic own 0 key tree)
  unfolding own
  its_index =
      all-slice_get (IsGuarded db.schema.indexes) db.schema.tables exists.at own exists.known.named.1
      sound.lists.guarded 0 key refl

  no_clash : (row : Row) → Has (rows_named db name) row → passes Unique db.schema db.trees own row ≡ true
  unfolding own
  no_clash row present =
      all_has (λ r. passes Unique db.schema db.trees own r ≡ true) (db.trees own.tree) row
      (all-slice_get (λ t. AllByRecursion (λ r. passes Unique db.schema db.trees t r ≡ true) (db.trees t.tree))
      db.schema.tables exists.at own exists.known.named.1 (sound.obeys.rules Unique)) present

  pub one_key : (a b : Row) → Has (rows_named db name) a → Has (rows_named db name) b → agree plain key a key b ≡ true
      → a ≡ b
  unfolding own
  one_key a b here present same =
      let index : Index = automatic own 0 key its_index.0 in
      let free : not (guards index own && clashes index.order index.columns (db.trees own.tree) b) ≡ true =
      test_has (λ i. not (guards i own && clashes i.order i.columns (db.trees own.tree) b)) db.schema.indexes index
      (no_clash b present) its_index.1 in
      let guarded : guards index own ≡ true = grind (arith, nat_tests) in
      let idle : clashes plain key (db.trees own.tree) b ≡ false = distinct_rowids _ _ guarded free in
      let tied : differ (rowid a) (rowid b) ≡ false = none a here same idle in
      once (rows_named db name) keyed.distinct_rowids a b here present
      (ints_tied (rowid a) (rowid b) (keyed.ints a here) (keyed.ints b present) tied)
    where
      distinct_rowids : (g c : Bool) → g ≡ true → not (g && c) ≡ true → c ≡ false
      distinct_rowids g true h k = absurd (let no = rw h at k in cc)
      distinct_rowids g false h k = refl

      none : (x : Row) → Has (db.trees own.tree) x → agree plain key x key b ≡ true
          → clashes plain key (db.trees own.tree) b ≡ false → differ (rowid x) (rowid b) ≡ false
      none x h agrees idle = go (differ (rowid x) (rowid b)) refl
        where
          go : (d : Bool) → differ (rowid x) (rowid b) ≡ d → differ (rowid x) (rowid b) ≡ false
          go false is = is
          go true is =
              absurd (let some = some_from (λ other. agree plain key other key b && differ (rowid other) (rowid b))
              (db.trees own.tree) x h (rw (agrees, is) refl) in let no = sym some ∙ idle in cc)
