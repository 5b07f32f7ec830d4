-- The rows of the store's tables are of the types of their columns, as a database that obeys its schema has them.
use Rattle.std.proofs.Common.{◌≡◌, ℕ, suc, ◌+◌, List, [], ◌∷◌, Bool, true, false, not, ◌||◌, ap, subst, ◌∙◌, refl, drop}
use Rattle.std.proofs.Common.{arith}
use Rattle.std.specs.List.{AllByRecursion, list_all}
use Rattle.std.specs.Prelude.{None, if◌then◌else◌}
use Rattle.sqlite_value.specs.declared.value.Value.{Value}
use Rattle.sqlite_value.specs.declared.value.Value.TheVariants.{Null, Int, Real, Text, Blob}
use Rattle.sqlite_value.specs.Order.{Row, column}
use Rattle.sqlite_trees.specs.View.{is_int}
use Rattle.sqlite_trees.proofs.ListLemmas.{all-slice_get}
use Rattle.sqlite_rules.specs.Lists.{Has}
use Rattle.sqlite_rules.proofs.ListLemmas.{all_has}
use Rattle.sqlite_sql.specs.Ops.{is_null}
use Rattle.sqlite_schema.specs.declared.schema.Kind.{Kind}
use Rattle.sqlite_schema.specs.declared.schema.Kind.TheVariants as kind
use Rattle.sqlite_schema.specs.declared.schema.Column.{Column}
use Rattle.sqlite_schema.specs.declared.schema.Table.{Table}
use Rattle.sqlite_schema.specs.declared.schema.Constraint.TheVariants.{Datatype, NotNull}
use Rattle.sqlite_schema.specs.Rules.{is_of, has_affinity, are_typed, are_present, passes}
use Rattle.sqlite.specs.Effect.{Database, IsDatabase}
use Rattle.tables_schema.specs.Forms.{object, piece, temp_root, strict, col}
use Rattle.tables_schema.specs.Intact.{IsIntact, tree_named}
use Rattle.tables_sql.specs.Contents.{is_text, is_blob, is_text_or_null, is_object, is_pair, is_triple, is_profile}
use Rattle.tables_sql.specs.Contents.{is_generation, is_piece, is_session_path, rows_named}
use Rattle.tables_sql.proofs.Truths.{and_so}

-- a value of a type that is there

text_of : (v : Value) → is_of kind.Text v ≡ true → not (is_null v) ≡ true → is_text v ≡ true
text_of Null h k = cc
text_of (Int n) h k = cc
text_of (Real x) h k = cc
text_of (Text t) h k = refl
text_of (Blob b) h k = cc

blob_of : (v : Value) → is_of kind.Blob v ≡ true → not (is_null v) ≡ true → is_blob v ≡ true
blob_of Null h k = cc
blob_of (Int n) h k = cc
blob_of (Real x) h k = cc
blob_of (Text t) h k = cc
blob_of (Blob b) h k = refl

text_if_of : (v : Value) → is_of kind.Text v ≡ true → is_text_or_null v ≡ true
text_if_of Null h = refl
text_if_of (Int n) h = cc
text_if_of (Real x) h = cc
text_if_of (Text t) h = refl
text_if_of (Blob b) h = cc

int_of : (v : Value) → is_of kind.Integer v ≡ true → not (is_null v) ≡ true → is_int v ≡ true
int_of Null h k = cc
int_of (Int n) h k = refl
int_of (Real x) h k = cc
int_of (Text t) h k = cc
int_of (Blob b) h k = cc

-- what a column asks of its value, by its type and whether it is NOT NULL
abbrev asks : Kind → Bool → Value → Bool
asks kind.Text true v = is_text v
asks kind.Text false v = is_text_or_null v
asks kind.Integer true v = is_int v
asks kind.Blob true v = is_blob v
asks _ _ v = true

answers : (k : Kind) (required : Bool) (v : Value) → is_of k v ≡ true → (not required || not (is_null v)) ≡ true
    → asks k required v ≡ true
answers kind.Text true v h present = text_of v h present
answers kind.Text false v h present = text_if_of v h
answers kind.Integer true v h present = int_of v h present
answers kind.Integer false v h present = refl
answers kind.Blob true v h present = blob_of v h present
answers kind.Blob false v h present = refl
answers kind.Real true v h present = refl
answers kind.Real false v h present = refl
answers kind.Any true v h present = refl
answers kind.Any false v h present = refl

-- each value from this place on is as its column asks
abbrev AreOf : ℕ → List Column → Row → Type 0
AreOf at [] row = Unit {0}
AreOf at (c ∷ cs) row = (asks c.kind c.not_null (column row at) ≡ true) × AreOf (at + 1) cs row

suited : (b x y : Bool) → b ≡ true → (if b then x else y) ≡ true → x ≡ true
suited true x y h k = k
suited false x y h k = cc

value : (c : Column) (at : ℕ) (row vs : Row) → ((i : ℕ) → column vs i ≡ column row (at + 1 + i))
    → is_of c.kind (column vs 0) ≡ true → (not c.not_null || not (is_null (column row (at + 1)))) ≡ true
    → asks c.kind c.not_null (column row (at + 1)) ≡ true
value c at row vs same h present = let here : at + 1 + 0 ≡ at + 1 =
    omega arith in answers c.kind c.not_null (column row (at + 1))
    (subst (λ v. is_of c.kind v ≡ true) (same 0 ∙ ap (column row) here) h) present

later : (row : Row) (at : ℕ) → column (drop 1 row) at ≡ column row (suc at)
later [] at = refl
later (v ∷ vs) at = refl

next : (at : ℕ) (row vs : Row) → ((i : ℕ) → column vs i ≡ column row (at + 1 + i)) → (i : ℕ)
    → column (drop 1 vs) i ≡ column row (at + 1 + 1 + i)
next at row vs same i = let present : at + 1 + suc i ≡ at + 1 + 1 + i =
    omega arith in later vs i ∙ same (suc i) ∙ ap (column row) present

are_of : (cs : List Column) (at : ℕ) (row vs : Row) → ((i : ℕ) → column vs i ≡ column row (at + 1 + i))
    → list_all (λ c. c.is_strict) cs ≡ true → are_typed None at cs vs ≡ true → are_present None at cs row ≡ true
    → AreOf (at + 1) cs row
are_of [] at row vs same strict h present = tt
are_of (c ∷ cs) at row [] same strict h present = (
  value c at row [] same refl (and_so _ _ present).0,
  are_of cs (at + 1) row [] (λ i. next at row [] same i) (and_so _ _ strict).1 (and_so _ _ h).1
      (and_so _ _ present).1,
)
are_of (c ∷ cs) at row (v ∷ vs) same strict h present = (
  value c at row (v ∷ vs) same (suited c.is_strict (is_of c.kind v) (has_affinity c.kind v) (and_so _ _ strict).0
      (and_so _ _ h).0) (and_so _ _ present).0,
  are_of cs (at + 1) row vs (λ i. next at row (v ∷ vs) same i) (and_so _ _ strict).1 (and_so _ _ h).1
      (and_so _ _ present).1,
)

-- what each row of a table of the store passes
module _ (db : Database) (sound : IsDatabase db) (table : Table) (exists : IsIntact db.schema table) (row : Row)
    (present : Has (rows_named db table.name) row) where
  abbrev own : Table
  own = record table { tree = tree_named db.schema table.name }

  has_types : are_typed own.key 0 own.columns (drop 1 row) ≡ true
  has_types =
      (and_so _ _ (all_has (λ r. passes Datatype db.schema db.trees own r ≡ true) (db.trees own.tree) row
      (all-slice_get (λ t. AllByRecursion (λ r. passes Datatype db.schema db.trees t r ≡ true) (db.trees t.tree))
      db.schema.tables exists.at own exists.known.named.1 (sound.obeys.rules Datatype)) present)).0

  has_values : are_present own.key 0 own.columns row ≡ true
  has_values =
      all_has (λ r. passes NotNull db.schema db.trees own r ≡ true) (db.trees own.tree) row
      (all-slice_get (λ t. AllByRecursion (λ r. passes NotNull db.schema db.trees t r ≡ true) (db.trees t.tree))
      db.schema.tables exists.at own exists.known.named.1 (sound.obeys.rules NotNull)) present

-- each row of a table of the store is as its columns ask
typed : (db : Database) → IsDatabase db → (name : List ℕ) (columns : List Column) (key : List ℕ)
    → list_all (λ c. c.is_strict) columns ≡ true → IsIntact db.schema (strict name columns key) → (row : Row)
    → Has (rows_named db name) row → AreOf 1 columns row
typed db sound name columns key all exists row present =
    let table = strict name columns key in
    are_of columns 0 row (drop 1 row)
    (λ i. let at : suc i ≡ 0 + 1 + i = omega arith in later row i ∙ ap (column row) at) all
    (has_types db sound table exists row present) (has_values db sound table exists row present)

-- the path of an object
pub base_is : (r : Row) → is_object r ≡ true → is_text (column r 1) ≡ true
base_is r h = (and_so _ _ (and_so _ _ (and_so _ _ (and_so _ _ h).0).0).0).0

module _ (db : Database) (sound : IsDatabase db) where
  pub objects_typed : IsIntact db.schema object → (row : Row) → Has (rows_named db object.name) row
      → is_object row ≡ true
  objects_typed exists row present = let k =
      typed db sound object.name object.columns object.primary refl exists row present in
      rw (k.0, k.1.0, k.1.1.0, k.1.1.1.0, k.1.1.1.1.0) refl

  pub pieces_typed : IsIntact db.schema piece → (row : Row) → Has (rows_named db piece.name) row → is_piece row ≡ true
  pieces_typed exists row present = let k =
      typed db sound piece.name piece.columns piece.primary refl exists row present in rw (k.0, k.1.0, k.1.1.0) refl

  pub temp_roots_typed : IsIntact db.schema temp_root → (row : Row) → Has (rows_named db temp_root.name) row
      → is_session_path row ≡ true
  temp_roots_typed exists row present = let k =
      typed db sound temp_root.name temp_root.columns temp_root.primary refl exists row present in
      rw (k.0, k.1.0, k.1.1.0) refl

module _ (db : Database) (sound : IsDatabase db) (name a b : List ℕ) where
  pub pairs_typed : (key : List ℕ)
      → IsIntact db.schema (strict name (col a kind.Text true ∷ col b kind.Text true ∷ []) key) → (row : Row)
      → Has (rows_named db name) row → is_pair row ≡ true
  pairs_typed key exists row present = let k =
      typed db sound name (col a kind.Text true ∷ col b kind.Text true ∷ []) key refl exists row present in
      rw (k.0, k.1.0) refl

  pub triples_typed : (c key : List ℕ)
      → IsIntact db.schema (strict name (col a kind.Text true ∷ col b kind.Text true ∷ col c kind.Text true ∷ []) key)
      → (row : Row) → Has (rows_named db name) row → is_triple row ≡ true
  triples_typed c key exists row present = let k =
      typed db sound name (col a kind.Text true ∷ col b kind.Text true ∷ col c kind.Text true ∷ []) key refl exists row
      present in rw (k.0, k.1.0, k.1.1.0) refl

  pub profiles_typed : (c key : List ℕ)
      → IsIntact db.schema (strict name (col a kind.Text true ∷ col b kind.Text true ∷ col c kind.Integer true ∷ [])
      key) → (row : Row) → Has (rows_named db name) row → is_profile row ≡ true
  profiles_typed c key exists row present = let k =
      typed db sound name (col a kind.Text true ∷ col b kind.Text true ∷ col c kind.Integer true ∷ []) key refl exists
      row present in rw (k.0, k.1.0, k.1.1.0) refl

  pub generations_typed : (c d key : List ℕ)
      → IsIntact db.schema (strict name
      (col a kind.Text true ∷ col b kind.Text true ∷ col c kind.Integer true ∷ col d kind.Text true ∷ []) key)
      → (row : Row) → Has (rows_named db name) row → is_generation row ≡ true
  generations_typed c d key exists row present =
      let k =
      typed db sound name (col a kind.Text true ∷ col b kind.Text true ∷ col c kind.Integer true
      ∷ col d kind.Text true ∷ []) key refl exists row present in
      rw (k.0, k.1.0, k.1.1.0, k.1.1.1.0) refl
