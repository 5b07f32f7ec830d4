-- The rows that a migration puts, and why it fails.
use Rattle.std.specs.Prelude.{◌≡◌, ◌⊎◌, ◌<◌, ℤ, List, [], ◌∷◌, cond, nat_lt, length, Some, None, codes}
use Rattle.std.specs.FinMap as finite
use Rattle.sqlite_value.specs.declared.value.Value.TheVariants.{Text}
use Rattle.sqlite.specs.State.{State}
use Rattle.tables_schema.specs.Forms.{meta}
use Rattle.tables_schema.specs.declared.schema.Schema.{Schema}
use Rattle.tables_schema.specs.declared.schema.Schema.TheVariants.{V1, V2, V3}
use Rattle.tables_schema.specs.Schemas.{schema_text}
use Rattle.tables_sql.specs.Contents.{Stored, Contents, contents_of}
use Rattle.tables_sql.specs.declared.failure.Failed.{Failed}
use Rattle.model.specs.World.{Path}
use Rattle.tables_world.specs.Pieces.{piece_size, row_part, further_pieces}
use Rattle.tables_rows.specs.ObjectRows.{ObjectRow, PieceRow}
use Rattle.tables_rows.specs.Reasons.{Rows, Both, IsRow, NoRow, RowsOf, RowsIfAny, IsReason}
use Rattle.tables_make.specs.NewTables.{FailsToMakeThese}
use Rattle.tables_make.specs.Further.{grown}
use Rattle.tables_make.specs.Migrated.{missing_tables}

-- ---- rows

-- the setting that says the third schema
abbrev pub SettingRow : Rows
SettingRow = IsRow meta (Text (codes "schema") ∷ Text (schema_text V3) ∷ [])

-- an object with the first part of its archive, and the pieces of the rest
abbrev pub CutRows : Path → Stored → Rows
CutRows p o = Both (ObjectRow p (record o { nar = row_part o.nar })) (RowsOf (PieceRow p) (further_pieces o.nar))

-- the rows of an object, if its archive is longer than a row takes
abbrev pub LongRows : Path → Stored → Rows
LongRows p o = cond (nat_lt piece_size (length o.nar)) (CutRows p o) NoRow

-- the rows of the object at a path, if there is one and its archive is that long
abbrev pub CutRowsAt : Contents → Path → Rows
CutRowsAt c p = RowsIfAny (LongRows p) (finite.get c.objects p)

-- what is put where the archives of some objects are cut, and the setting made that of the third schema
abbrev pub RewrittenRows : Contents → List Path → Rows
RewrittenRows c paths = Both (RowsOf (CutRowsAt c) paths) SettingRow

-- what a migration puts: the setting, and from the first schema the objects whose archives are cut
abbrev pub MigratedRows : Schema → Contents → Rows
MigratedRows V1 c = RewrittenRows c (finite.keys c.objects)
MigratedRows V2 c = SettingRow
MigratedRows V3 c = SettingRow

-- ---- what was not cut yet

-- a path has no further piece
abbrev pub HasNoPieces : Path → Contents → Type 0
HasNoPieces p c = (n : ℤ) → finite.get c.pieces (p, n) ≡ None

-- an object exists at a path, and if its archive is longer than a row takes it was not cut yet
pub record HasUncut (p : Path) (o : Stored) (c : Contents) : Type 0 where
  pub present : finite.get c.objects p ≡ Some o
  pub free : piece_size < length o.nar → HasNoPieces p c

-- no archive that is longer than a row takes was cut yet
abbrev pub IsUncut : Contents → Type 0
IsUncut c =
    (p : Path) (o : Stored) → finite.get c.objects p ≡ Some o → piece_size < length o.nar → HasNoPieces p c

-- ---- why it fails

-- a connection with the tables that a schema lacks
abbrev pub with_missing : Schema → State → State
with_missing from s = record s { now = grown (missing_tables from) s.now }

-- Why the tables of a schema aren't brought to the third: those that it lacks aren't made, or next to them these rows
-- aren't put.
abbrev pub FailsToPutBy : Rows → Schema → State → State → Failed → Type 0
FailsToPutBy rows from old new f =
    FailsToMakeThese (missing_tables from) ⊥ ⊥ old new f ⊎ IsReason rows (with_missing from old) new f

abbrev pub FailsToMigrate : Schema → State → State → Failed → Type 0
FailsToMigrate from old = FailsToPutBy (MigratedRows from (contents_of old.now)) from old
