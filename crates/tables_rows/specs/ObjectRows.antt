-- The row of an object, and that of a further piece of its archive.
use Rattle.std.specs.Prelude.{ℤ, [], ◌∷◌}
use Rattle.sqlite_value.specs.declared.value.Value.TheVariants.{Int, Text, Blob}
use Rattle.sqlite.specs.Values.{or_null}
use Rattle.tables_schema.specs.Forms.{object, piece}
use Rattle.tables_sql.specs.Contents.{Bytes, Stored}
use Rattle.tables_rows.specs.Reasons.{Rows, IsRow}

-- an object's own
abbrev pub ObjectRow : Bytes → Stored → Rows
ObjectRow p o = IsRow object (Text p ∷ Blob o.nar ∷ Blob o.hash ∷ or_null Text o.deriver ∷ or_null Text o.ca ∷ [])

-- a further piece of an archive: its number and its bytes
abbrev pub PieceRow : Bytes → ℤ × Bytes → Rows
PieceRow p e = IsRow piece (Text p ∷ Int e.0 ∷ Blob e.1 ∷ [])
