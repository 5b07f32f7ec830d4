-- What the store's tables hold: eleven finite maps over bytes and numbers. A set is a map to the unit.
use Rattle.std.specs.Prelude.{Bool, true, false, ◌&&◌, filter, find, ℤ, Option, Some, None, option_map, unwrap_or, ℕ}
use Rattle.std.specs.Prelude.{List, [], map, codes}
use Rattle.std.specs.declared.cmp.Ordering.{Ordering}
use Rattle.std.specs.Ordering.{on, then_cmp, nat_cmp, int_cmp}
use Rattle.std.specs.Cmp.Lexicographic.{slice_cmp}
use Rattle.std.specs.FinMap as finite
use Rattle.sqlite_value.specs.Order.{Row, column, bytes}
use Rattle.sqlite_schema.specs.Names.{same_name}
use Rattle.sqlite_value.specs.declared.value.Value.{Value}
use Rattle.sqlite_value.specs.declared.value.Value.TheVariants.{Null, Text, Blob}
use Rattle.sqlite_trees.specs.View.{is_int}
use Rattle.sqlite_rules.specs.Edit.{id_in}
use Rattle.sqlite.specs.Effect.{Database}
use Rattle.tables_schema.specs.Intact.{tree_named}

-- ---- keys and their order

abbrev pub Bytes : Type 0
Bytes = List ℕ

abbrev pub Pair : Type 0
Pair = Bytes × Bytes

-- the owner, the name and the number of a generation
abbrev pub Triple : Type 0
Triple = Bytes × Bytes × ℤ

-- an object's path and the number of a piece of its archive
abbrev pub Numbered : Type 0
Numbered = Bytes × ℤ

-- the owner and the number of a session, and a path that it keeps
abbrev pub SessionPath : Type 0
SessionPath = Bytes × ℤ × Bytes

abbrev pub texts_cmp : Bytes → Bytes → Ordering
texts_cmp = slice_cmp nat_cmp

-- by the first, and then by the second
abbrev pub pair_cmp : Pair → Pair → Ordering
pair_cmp = then_cmp (on (λ p. p.0) texts_cmp) (on (λ p. p.1) texts_cmp)

abbrev pub triple_cmp : Triple → Triple → Ordering
triple_cmp = then_cmp (on (λ t. t.0) texts_cmp) (then_cmp (on (λ t. t.1) texts_cmp) (on (λ t. t.2) int_cmp))

abbrev pub numbered_cmp : Numbered → Numbered → Ordering
numbered_cmp = then_cmp (on (λ n. n.0) texts_cmp) (on (λ n. n.1) int_cmp)

abbrev pub session_path_cmp : SessionPath → SessionPath → Ordering
session_path_cmp = then_cmp (on (λ k. k.0) texts_cmp) (then_cmp (on (λ k. k.1) int_cmp) (on (λ k. k.2) texts_cmp))

abbrev pub PairSet : Type 0
PairSet = finite.FinMap pair_cmp (Unit {0})

-- ---- the eleven maps

-- what an object's row holds besides its path
pub record Stored : Type 0 where
  pub nar : Bytes
  pub hash : Bytes
  pub deriver : Option Bytes
  pub ca : Option Bytes

pub record Contents : Type 0 where
  -- each word and its value
  pub meta : finite.FinMap texts_cmp Bytes
  -- each object by its path
  pub objects : finite.FinMap texts_cmp Stored
  -- an object's path, and a path that it refers to
  pub refs : PairSet
  -- an object's path and the name of an output, and the output's path
  pub outs : finite.FinMap pair_cmp Bytes
  -- each permanent root's name, and its target
  pub permanent : finite.FinMap texts_cmp Bytes
  -- a user and a name, and the root's target
  pub user_roots : finite.FinMap pair_cmp Bytes
  -- a user and a profile's name, and the number of its current generation
  pub profiles : finite.FinMap pair_cmp ℤ
  -- a user, a profile's name and a number, and the generation's target
  pub generations : finite.FinMap triple_cmp Bytes
  -- a label and a target
  pub runtime : PairSet
  -- an object's path and a number, and the bytes of that piece of its archive; none, where there is no such table
  pub pieces : finite.FinMap numbered_cmp Bytes
  -- a user, the number of a session and a target; none, where there is no such table
  pub temp_roots : finite.FinMap session_path_cmp (Unit {0})

-- ---- how they are read off the rows, whose first column is the rowid; a row of another kind, which STRICT keeps out,
-- says nothing

abbrev pub is_text : Value → Bool
is_text (Text t) = true
is_text _ = false

abbrev pub is_blob : Value → Bool
is_blob (Blob b) = true
is_blob _ = false

abbrev pub is_text_or_null : Value → Bool
is_text_or_null Null = true
is_text_or_null (Text t) = true
is_text_or_null _ = false

abbrev pub text_if_any : Value → Option Bytes
text_if_any (Text t) = Some t
text_if_any _ = None

-- two texts
abbrev pub is_pair : Row → Bool
is_pair row = is_text (column row 1) && is_text (column row 2)

abbrev pub pair_of : Row → Pair
pair_of row = (bytes (column row 1), bytes (column row 2))

-- a pair as the member of a set
abbrev pub member_of : Row → Pair × Unit {0}
member_of row = (pair_of row, tt)

-- three texts
abbrev pub is_triple : Row → Bool
is_triple row = is_pair row && is_text (column row 3)

abbrev pub is_object : Row → Bool
is_object row =
    is_text (column row 1) && is_blob (column row 2) && is_blob (column row 3) && is_text_or_null (column row 4)
    && is_text_or_null (column row 5)

abbrev pub object_of : Row → Bytes × Stored
object_of row = (
  bytes (column row 1),
  record {
    nar = bytes (column row 2);
    hash = bytes (column row 3);
    deriver = text_if_any (column row 4);
    ca = text_if_any (column row 5);
  },
)

-- a pair, and a text that belongs to it
abbrev pub target_of : Row → Pair × Bytes
target_of row = (pair_of row, bytes (column row 3))

abbrev pub is_profile : Row → Bool
is_profile row = is_pair row && is_int (column row 3)

abbrev pub profile_of : Row → Pair × ℤ
profile_of row = (pair_of row, id_in (column row 3))

abbrev pub is_generation : Row → Bool
is_generation row = is_pair row && is_int (column row 3) && is_text (column row 4)

abbrev pub generation_of : Row → Triple × Bytes
generation_of row = ((bytes (column row 1), bytes (column row 2), id_in (column row 3)), bytes (column row 4))

abbrev pub is_piece : Row → Bool
is_piece row = is_text (column row 1) && is_int (column row 2) && is_blob (column row 3)

abbrev pub piece_of : Row → Numbered × Bytes
piece_of row = ((bytes (column row 1), id_in (column row 2)), bytes (column row 3))

abbrev pub is_session_path : Row → Bool
is_session_path row = is_text (column row 1) && is_int (column row 2) && is_text (column row 3)

abbrev pub session_path_of : Row → SessionPath × Unit {0}
session_path_of row = ((bytes (column row 1), id_in (column row 2), bytes (column row 3)), tt)

-- the map that the rows of one kind make
unfoldable pub map_of : {K X : Type 0} (R : K → K → Ordering) → (Row → Bool) → (Row → K × X) → List Row
    → finite.FinMap R X
map_of R kind entry rows = finite.from_entries (map entry (filter kind rows))

-- the rows of the table of a name
abbrev pub rows_named : Database → Bytes → List Row
rows_named db name = db.trees (tree_named db.schema name)

-- the rows of a table that may be missing
unfoldable pub rows_if_any : Database → Bytes → List Row
rows_if_any db name =
    unwrap_or (option_map (λ t. db.trees t.tree) (find (λ t. same_name t.name name) db.schema.tables)) []

-- what tables hold that have these rows by their names; the further two, of which there may be none, by themselves
abbrev pub contents_with : (Bytes → List Row) → (pieces temp_roots : List Row) → Contents
contents_with rows pieces temp_roots = record {
  meta = map_of texts_cmp is_pair pair_of (rows (codes "meta"));
  objects = map_of texts_cmp is_object object_of (rows (codes "object"));
  refs = map_of pair_cmp is_pair member_of (rows (codes "refs"));
  outs = map_of pair_cmp is_triple target_of (rows (codes "outs"));
  permanent = map_of texts_cmp is_pair pair_of (rows (codes "permanent"));
  user_roots = map_of pair_cmp is_triple target_of (rows (codes "user_root"));
  profiles = map_of pair_cmp is_profile profile_of (rows (codes "profile"));
  generations = map_of triple_cmp is_generation generation_of (rows (codes "generation"));
  runtime = map_of pair_cmp is_pair member_of (rows (codes "runtime"));
  pieces = map_of numbered_cmp is_piece piece_of pieces;
  temp_roots = map_of session_path_cmp is_session_path session_path_of temp_roots;
}

-- what the store's tables hold in this database
abbrev pub contents_of : Database → Contents
contents_of db = contents_with (rows_named db) (rows_if_any db (codes "piece")) (rows_if_any db (codes "temp_root"))
