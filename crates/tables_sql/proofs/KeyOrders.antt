-- A query which sorts by the columns of a key sorts by the order of the keys.
use Rattle.std.proofs.Common.{◌≡◌, true, refl, ◌∙◌}
use Rattle.std.specs.declared.cmp.Ordering.TheVariants.{Equal}
use Rattle.std.specs.Ordering.{ordering_then, int_cmp}
use Rattle.sqlite_value.specs.declared.value.Value.{Value}
use Rattle.sqlite_value.specs.declared.value.Value.TheVariants.{Null, Int, Real, Text, Blob}
use Rattle.sqlite_value.specs.Order.{Row, column, bytes, value_cmp}
use Rattle.sqlite_value.proofs.OrderLemmas.{value_cmp-Text, value_cmp-Int, then-Equal}
use Rattle.sqlite_trees.specs.View.{is_int}
use Rattle.sqlite_rules.specs.Edit.{id_in}
use Rattle.tables_sql.specs.Contents.{texts_cmp, pair_cmp, triple_cmp, numbered_cmp, session_path_cmp, is_text, is_pair}
use Rattle.tables_sql.specs.Contents.{pair_of, is_generation, generation_of, is_piece, piece_of, is_session_path}
use Rattle.tables_sql.specs.Contents.{session_path_of}
use Rattle.tables_sql.proofs.Truths.{and_so}

texts_in_order : (v w : Value) → is_text v ≡ true → is_text w ≡ true → value_cmp v w ≡ texts_cmp (bytes v) (bytes w)
texts_in_order Null w h k = absurd (let no = h in cc)
texts_in_order (Int n) w h k = absurd (let no = h in cc)
texts_in_order (Real x) w h k = absurd (let no = h in cc)
texts_in_order (Blob b) w h k = absurd (let no = h in cc)
texts_in_order (Text t) Null h k = absurd (let no = k in cc)
texts_in_order (Text t) (Int n) h k = absurd (let no = k in cc)
texts_in_order (Text t) (Real x) h k = absurd (let no = k in cc)
texts_in_order (Text t) (Blob b) h k = absurd (let no = k in cc)
texts_in_order (Text t) (Text u) h k = value_cmp-Text t u

ints_in_order : (v w : Value) → is_int v ≡ true → is_int w ≡ true → value_cmp v w ≡ int_cmp (id_in v) (id_in w)
ints_in_order Null w h k = absurd (let no = h in cc)
ints_in_order (Text t) w h k = absurd (let no = h in cc)
ints_in_order (Real x) w h k = absurd (let no = h in cc)
ints_in_order (Blob b) w h k = absurd (let no = h in cc)
ints_in_order (Int n) Null h k = absurd (let no = k in cc)
ints_in_order (Int n) (Text t) h k = absurd (let no = k in cc)
ints_in_order (Int n) (Real x) h k = absurd (let no = k in cc)
ints_in_order (Int n) (Blob b) h k = absurd (let no = k in cc)
ints_in_order (Int n) (Int m) h k = value_cmp-Int n m

-- a key of one text
pub by_text : (a b : Row) → is_text (column a 1) ≡ true → is_text (column b 1) ≡ true
    → ordering_then (value_cmp (column a 1) (column b 1)) Equal ≡ texts_cmp (bytes (column a 1)) (bytes (column b 1))
by_text a b h k = then-Equal _ ∙ texts_in_order (column a 1) (column b 1) h k

-- of two
pub by_pair : (a b : Row) → is_pair a ≡ true → is_pair b ≡ true
    → ordering_then (value_cmp (column a 1) (column b 1)) (ordering_then (value_cmp (column a 2) (column b 2)) Equal)
    ≡ pair_cmp (pair_of a) (pair_of b)
by_pair a b h k =
    let p = and_so _ _ h in
    let q = and_so _ _ k in
    rw (
      texts_in_order (column a 1) (column b 1) p.0 q.0,
      texts_in_order (column a 2) (column b 2) p.1 q.1,
      then-Equal (texts_cmp (bytes (column a 2)) (bytes (column b 2))),
    ) refl

-- of two and an integer
pub by_triple : (a b : Row) → is_generation a ≡ true → is_generation b ≡ true
    → ordering_then (value_cmp (column a 1) (column b 1))
    (ordering_then (value_cmp (column a 2) (column b 2))
    (ordering_then (value_cmp (column a 3) (column b 3)) Equal))
    ≡ triple_cmp (generation_of a).0 (generation_of b).0
by_triple a b h k =
    let whole = and_so _ _ (and_so _ _ h).0 in
    let other = and_so _ _ (and_so _ _ k).0 in
    let p = and_so _ _ whole.0 in
    let q = and_so _ _ other.0 in
    rw (
      texts_in_order (column a 1) (column b 1) p.0 q.0,
      texts_in_order (column a 2) (column b 2) p.1 q.1,
      ints_in_order (column a 3) (column b 3) whole.1 other.1,
      then-Equal (int_cmp (id_in (column a 3)) (id_in (column b 3))),
    ) refl

-- of a text and an integer
pub by_numbered : (a b : Row) → is_piece a ≡ true → is_piece b ≡ true
    → ordering_then (value_cmp (column a 1) (column b 1)) (ordering_then (value_cmp (column a 2) (column b 2)) Equal)
    ≡ numbered_cmp (piece_of a).0 (piece_of b).0
by_numbered a b h k =
    let p = and_so _ _ (and_so _ _ h).0 in
    let q = and_so _ _ (and_so _ _ k).0 in
    rw (
      texts_in_order (column a 1) (column b 1) p.0 q.0,
      ints_in_order (column a 2) (column b 2) p.1 q.1,
      then-Equal (int_cmp (id_in (column a 2)) (id_in (column b 2))),
    ) refl

-- of a text, an integer and a text
pub by_kept : (a b : Row) → is_session_path a ≡ true → is_session_path b ≡ true
    → ordering_then (value_cmp (column a 1) (column b 1))
    (ordering_then (value_cmp (column a 2) (column b 2))
    (ordering_then (value_cmp (column a 3) (column b 3)) Equal))
    ≡ session_path_cmp (session_path_of a).0 (session_path_of b).0
by_kept a b h k =
    let whole = and_so _ _ h in
    let other = and_so _ _ k in
    let p = and_so _ _ whole.0 in
    let q = and_so _ _ other.0 in
    rw (
      texts_in_order (column a 1) (column b 1) p.0 q.0,
      ints_in_order (column a 2) (column b 2) p.1 q.1,
      texts_in_order (column a 3) (column b 3) whole.1 other.1,
      then-Equal (texts_cmp (bytes (column a 3)) (bytes (column b 3))),
    ) refl
