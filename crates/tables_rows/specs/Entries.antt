-- What an entry that a call returns means, and the columns of a row that shows it.
use Rattle.std.specs.Prelude.{◌≡◌, ◌≢◌, ◌⊎◌, ℕ, ℤ, List, length, Option, Some, None, String, MatchOption, option_map}
use Rattle.std.specs.Prelude.{string_bytes}
use Rattle.std.specs.declared.alloc.Global.{Global}
use Rattle.sqlite_value.specs.declared.value.Value.{Value}
use Rattle.sqlite_value.specs.declared.value.Value.TheVariants.{Null, Int, Text, Blob}
use Rattle.sqlite_value.specs.Order.{Row, column}
use Rattle.std.specs.FinMap as finite
use Rattle.sqlite.specs.Values.{IsInt, or_null}
use Rattle.tables_sql.specs.Contents.{Bytes, Pair, Triple, Numbered, SessionPath, Stored, texts_cmp}
use Rattle.tables_rows.specs.declared.meta.Setting.{Setting}
use Rattle.tables_rows.specs.declared.objects.Object.{Object}
use Rattle.tables_rows.specs.declared.references.Reference.{Reference}
use Rattle.tables_rows.specs.declared.outputs.Output.{Output}
use Rattle.tables_rows.specs.declared.permanent.PermanentRoot.{PermanentRoot}
use Rattle.tables_rows.specs.declared.user_roots.UserRoot.{UserRoot}
use Rattle.tables_rows.specs.declared.profiles.Profile.{Profile}
use Rattle.tables_rows.specs.declared.generations.Generation.{Generation}
use Rattle.tables_rows.specs.declared.runtime.RuntimeRoot.{RuntimeRoot}
use Rattle.tables_rows.specs.declared.pieces.Piece.{Piece}
use Rattle.tables_rows.specs.declared.pieces.PieceKey.{PieceKey}
use Rattle.tables_rows.specs.declared.temp_roots.TempRoot.{TempRoot}
use Rattle.tables_sql.specs.Reading.{IsLegible}

-- what is stored of an object that is passed
abbrev pub stored : List ℕ → List ℕ → Option (String Global) → Option (String Global) → Stored
stored nar hash deriver ca =
    record { nar = nar; hash = hash; deriver = option_map string_bytes deriver; ca = option_map string_bytes ca }

-- a text that may be missing, as a row holds it
abbrev pub text_or_null : Option (String Global) → Value
text_or_null = or_null (λ s. Text (string_bytes s))

-- a text, or NULL
abbrev pub ShowsOptional : Value → Option (String Global) → Type 0
ShowsOptional v o = MatchOption o (v ≡ Null) (λ s. (v ≢ Null) × (v ≡ Text (string_bytes s)))

abbrev pub setting_of : Setting → Bytes × Bytes
setting_of e = (string_bytes e.word, string_bytes e.value)

abbrev pub ShowsSetting : Row → Setting → Type 0
ShowsSetting row e = (column row 0 ≡ Text (string_bytes e.word)) × (column row 1 ≡ Text (string_bytes e.value))

abbrev pub stored_of : Object → Bytes × Stored
stored_of e = (string_bytes e.base, stored e.nar.items e.hash.items e.deriver e.ca)

-- the object of this path, if there is one
abbrev pub IsStored : finite.FinMap texts_cmp Stored → Bytes → Option Object → Type 0
IsStored objects base o =
    MatchOption o (finite.get objects base ≡ None)
    (λ e. ((stored_of e).0 ≡ base) × (finite.get objects base ≡ Some (stored_of e).1))

abbrev pub ShowsObject : Row → Object → Type 0
ShowsObject row e =
    (column row 0 ≡ Text (string_bytes e.base)) × (column row 1 ≡ Blob e.nar.items) × (column row 2 ≡ Blob e.hash.items)
    × ShowsOptional (column row 3) e.deriver × ShowsOptional (column row 4) e.ca

abbrev pub reference_of : Reference → Pair × Unit {0}
reference_of e = ((string_bytes e.base, string_bytes e.target), tt)

abbrev pub ShowsReference : Row → Reference → Type 0
ShowsReference row e = (column row 0 ≡ Text (string_bytes e.base)) × (column row 1 ≡ Text (string_bytes e.target))

abbrev pub output_of : Output → Pair × Bytes
output_of e = ((string_bytes e.base, string_bytes e.name), string_bytes e.target)

abbrev pub ShowsOutput : Row → Output → Type 0
ShowsOutput row e =
    (column row 0 ≡ Text (string_bytes e.base)) × (column row 1 ≡ Text (string_bytes e.name))
    × (column row 2 ≡ Text (string_bytes e.target))

abbrev pub permanent_of : PermanentRoot → Bytes × Bytes
permanent_of e = (string_bytes e.name, string_bytes e.target)

abbrev pub ShowsPermanentRoot : Row → PermanentRoot → Type 0
ShowsPermanentRoot row e = (column row 0 ≡ Text (string_bytes e.name)) × (column row 1 ≡ Text (string_bytes e.target))

abbrev pub user_root_of : UserRoot → Pair × Bytes
user_root_of e = ((string_bytes e.owner, string_bytes e.name), string_bytes e.target)

abbrev pub ShowsUserRoot : Row → UserRoot → Type 0
ShowsUserRoot row e =
    (column row 0 ≡ Text (string_bytes e.owner)) × (column row 1 ≡ Text (string_bytes e.name))
    × (column row 2 ≡ Text (string_bytes e.target))

abbrev pub current_of : Profile → Pair × ℤ
current_of e = ((string_bytes e.owner, string_bytes e.name), e.current)

abbrev pub ShowsProfile : Row → Profile → Type 0
ShowsProfile row e =
    (column row 0 ≡ Text (string_bytes e.owner)) × (column row 1 ≡ Text (string_bytes e.name))
    × (column row 2 ≡ Int e.current)

abbrev pub generation_in : Generation → Triple × Bytes
generation_in e = ((string_bytes e.owner, string_bytes e.name, e.number), string_bytes e.target)

abbrev pub ShowsGeneration : Row → Generation → Type 0
ShowsGeneration row e =
    (column row 0 ≡ Text (string_bytes e.owner)) × (column row 1 ≡ Text (string_bytes e.name))
    × (column row 2 ≡ Int e.number) × (column row 3 ≡ Text (string_bytes e.target))

abbrev pub runtime_of : RuntimeRoot → Pair × Unit {0}
runtime_of e = ((string_bytes e.label, string_bytes e.target), tt)

abbrev pub ShowsRuntimeRoot : Row → RuntimeRoot → Type 0
ShowsRuntimeRoot row e = (column row 0 ≡ Text (string_bytes e.label)) × (column row 1 ≡ Text (string_bytes e.target))

abbrev pub piece_in : Piece → Numbered × Bytes
piece_in e = ((string_bytes e.base, e.number), e.bytes.items)

abbrev pub ShowsPiece : Row → Piece → Type 0
ShowsPiece row e =
    (column row 0 ≡ Text (string_bytes e.base)) × (column row 1 ≡ Int e.number) × (column row 2 ≡ Blob e.bytes.items)

abbrev pub numbered_in : PieceKey → Numbered
numbered_in e = (string_bytes e.base, e.number)

abbrev pub ShowsPieceKey : Row → PieceKey → Type 0
ShowsPieceKey row e = (column row 0 ≡ Text (string_bytes e.base)) × (column row 1 ≡ Int e.number)

abbrev pub temp_root_of : TempRoot → SessionPath × Unit {0}
temp_root_of e = ((string_bytes e.owner, e.session, string_bytes e.target), tt)

abbrev pub ShowsTempRoot : Row → TempRoot → Type 0
ShowsTempRoot row e =
    (column row 0 ≡ Text (string_bytes e.owner)) × (column row 1 ≡ Int e.session)
    × (column row 2 ≡ Text (string_bytes e.target))

-- ---- which rows of an answer can be read as an entry: its columns are counted from 0, and none is the rowid

-- a text that can be read, or NULL
abbrev pub IsLegibleIfAny : Value → Type 0
IsLegibleIfAny v = (v ≡ Null) ⊎ IsLegible v

abbrev pub IsBlob : Value → Type 0
IsBlob v = (b : Bytes) × (v ≡ Blob b)

-- two texts: a setting, a reference, a permanent root or a runtime root
abbrev pub IsPairRow : Row → Type 0
IsPairRow row = (length row ≡ 2) × IsLegible (column row 0) × IsLegible (column row 1)

-- three texts: an output, or a user's root
abbrev pub IsTripleRow : Row → Type 0
IsTripleRow row = (length row ≡ 3) × IsLegible (column row 0) × IsLegible (column row 1) × IsLegible (column row 2)

abbrev pub IsProfileRow : Row → Type 0
IsProfileRow row = (length row ≡ 3) × IsLegible (column row 0) × IsLegible (column row 1) × IsInt (column row 2)

abbrev pub IsGenerationRow : Row → Type 0
IsGenerationRow row =
    (length row ≡ 4) × IsLegible (column row 0) × IsLegible (column row 1) × IsInt (column row 2)
    × IsLegible (column row 3)

abbrev pub IsObjectRow : Row → Type 0
IsObjectRow row =
    (length row ≡ 5) × IsLegible (column row 0) × IsBlob (column row 1) × IsBlob (column row 2)
    × IsLegibleIfAny (column row 3) × IsLegibleIfAny (column row 4)

abbrev pub IsPieceRow : Row → Type 0
IsPieceRow row = (length row ≡ 3) × IsLegible (column row 0) × IsInt (column row 1) × IsBlob (column row 2)

-- a piece without its bytes
abbrev pub IsPieceKeyRow : Row → Type 0
IsPieceKeyRow row = (length row ≡ 2) × IsLegible (column row 0) × IsInt (column row 1)

abbrev pub IsTempRootRow : Row → Type 0
IsTempRootRow row = (length row ≡ 3) × IsLegible (column row 0) × IsInt (column row 1) × IsLegible (column row 2)
