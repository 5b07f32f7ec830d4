-- What a row of each kind shows can be read as an entry.
use Rattle.std.proofs.Common.{◌≡◌, inl, inr, ℕ, ◌+◌, ◌<◌, [], ◌∷◌, true, refl, arith}
use Rattle.sqlite_value.specs.declared.value.Value.{Value}
use Rattle.sqlite_value.specs.declared.value.Value.TheVariants.{Null, Int, Real, Text, Blob}
use Rattle.sqlite_value.specs.Order.{Row, column}
use Rattle.sqlite_trees.specs.View.{is_int}
use Rattle.sqlite.specs.Values.{IsInt}
use Rattle.tables_sql.specs.Contents.{is_text, is_blob, is_text_or_null, is_pair, is_triple, is_profile, is_generation}
use Rattle.tables_sql.specs.Contents.{is_object, is_piece, is_session_path}
use Rattle.tables_sql.specs.Texts.{IsReadable}
use Rattle.tables_rows.specs.Entries.{IsLegibleIfAny, IsBlob, IsPairRow, IsTripleRow, IsProfileRow, IsGenerationRow}
use Rattle.tables_rows.specs.Entries.{IsObjectRow, IsPieceRow, IsPieceKeyRow, IsTempRootRow}
use Rattle.tables_sql.specs.Reading.{IsLegible, IsTextRow}
use Rattle.tables_sql.proofs.Truths.{and_so}
use Rattle.tables_sql.proofs.Typed.{base_is}

text : (v : Value) → is_text v ≡ true → IsReadable v → IsLegible v
text Null h k = absurd (let no = h in cc)
text (Int n) h k = absurd (let no = h in cc)
text (Real x) h k = absurd (let no = h in cc)
text (Text t) h k = (t, refl, k)
text (Blob b) h k = absurd (let no = h in cc)

text_if_any : (v : Value) → is_text_or_null v ≡ true → IsReadable v → IsLegibleIfAny v
text_if_any Null h k = inl refl
text_if_any (Int n) h k = absurd (let no = h in cc)
text_if_any (Real x) h k = absurd (let no = h in cc)
text_if_any (Text t) h k = inr (t, refl, k)
text_if_any (Blob b) h k = absurd (let no = h in cc)

blob : (v : Value) → is_blob v ≡ true → IsBlob v
blob Null h = absurd (let no = h in cc)
blob (Int n) h = absurd (let no = h in cc)
blob (Real x) h = absurd (let no = h in cc)
blob (Text t) h = absurd (let no = h in cc)
blob (Blob b) h = (b, refl)

int : (v : Value) → is_int v ≡ true → IsInt v
int Null h = absurd (let no = h in cc)
int (Int n) h = (n, refl)
int (Real x) h = absurd (let no = h in cc)
int (Text t) h = absurd (let no = h in cc)
int (Blob b) h = absurd (let no = h in cc)

-- each text in the first N columns of a table's row is UTF-8
abbrev pub IsReadableTo : ℕ → Row → Type 0
IsReadableTo n r = (at : ℕ) → at < n → IsReadable (column r (at + 1))

pub pair_row : (r : Row) → is_pair r ≡ true → IsReadableTo 2 r → IsPairRow (column r 1 ∷ column r 2 ∷ [])
pair_row r h utf8 = (
  refl,
  text (column r 1) (and_so _ _ h).0 (utf8 0 (omega arith)),
  text (column r 2) (and_so _ _ h).1 (utf8 1 (omega arith)),
)

pub triple_row : (r : Row) → is_triple r ≡ true → IsReadableTo 3 r
    → IsTripleRow (column r 1 ∷ column r 2 ∷ column r 3 ∷ [])
triple_row r h utf8 =
    let pair = and_so _ _ (and_so _ _ h).0 in (
      refl,
      text (column r 1) pair.0 (utf8 0 (omega arith)),
      text (column r 2) pair.1 (utf8 1 (omega arith)),
      text (column r 3) (and_so _ _ h).1 (utf8 2 (omega arith)),
    )

pub profile_row : (r : Row) → is_profile r ≡ true → IsReadableTo 3 r
    → IsProfileRow (column r 1 ∷ column r 2 ∷ column r 3 ∷ [])
profile_row r h utf8 =
    let pair = and_so _ _ (and_so _ _ h).0 in (
      refl,
      text (column r 1) pair.0 (utf8 0 (omega arith)),
      text (column r 2) pair.1 (utf8 1 (omega arith)),
      int (column r 3) (and_so _ _ h).1,
    )

pub generation_row : (r : Row) → is_generation r ≡ true → IsReadableTo 4 r
    → IsGenerationRow (column r 1 ∷ column r 2 ∷ column r 3 ∷ column r 4 ∷ [])
generation_row r h utf8 =
    let front = and_so _ _ (and_so _ _ h).0 in
    let pair = and_so _ _ front.0 in (
      refl,
      text (column r 1) pair.0 (utf8 0 (omega arith)),
      text (column r 2) pair.1 (utf8 1 (omega arith)),
      int (column r 3) front.1,
      text (column r 4) (and_so _ _ h).1 (utf8 3 (omega arith)),
    )

pub object_row : (r : Row) → is_object r ≡ true → IsReadableTo 5 r
    → IsObjectRow (column r 1 ∷ column r 2 ∷ column r 3 ∷ column r 4 ∷ column r 5 ∷ [])
object_row r h utf8 =
    let first = utf8 0 (omega arith) in
    let fourth = utf8 3 (omega arith) in
    let fifth = utf8 4 (omega arith) in
    let four = and_so _ _ h in
    let three = and_so _ _ four.0 in
    let two = and_so _ _ three.0 in (
      refl,
      text (column r 1) (base_is r h) first,
      blob (column r 2) (and_so _ _ two.0).1,
      blob (column r 3) two.1,
      text_if_any (column r 4) three.1 fourth,
      text_if_any (column r 5) four.1 fifth,
    )

-- and the path alone
pub path_row : (r : Row) → is_object r ≡ true → IsReadableTo 5 r → IsTextRow (column r 1 ∷ [])
path_row r h utf8 = (refl, text (column r 1) (base_is r h) (utf8 0 (omega arith)))

pub piece_row : (r : Row) → is_piece r ≡ true → IsReadableTo 3 r
    → IsPieceRow (column r 1 ∷ column r 2 ∷ column r 3 ∷ [])
piece_row r h utf8 =
    let key = and_so _ _ (and_so _ _ h).0 in
    (refl, text (column r 1) key.0 (utf8 0 (omega arith)), int (column r 2) key.1, blob (column r 3) (and_so _ _ h).1)

-- the same without the bytes
pub piece_key_row : (r : Row) → is_piece r ≡ true → IsReadableTo 3 r → IsPieceKeyRow (column r 1 ∷ column r 2 ∷ [])
piece_key_row r h utf8 = let all = piece_row r h utf8 in (refl, all.1, all.2)

pub temp_root_row : (r : Row) → is_session_path r ≡ true → IsReadableTo 3 r
    → IsTempRootRow (column r 1 ∷ column r 2 ∷ column r 3 ∷ [])
temp_root_row r h utf8 =
    let front = and_so _ _ (and_so _ _ h).0 in (
      refl,
      text (column r 1) front.0 (utf8 0 (omega arith)),
      int (column r 2) front.1,
      text (column r 3) (and_so _ _ h).1 (utf8 2 (omega arith)),
    )
