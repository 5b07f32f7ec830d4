-- What the writes of a migration make of the contents of the store's tables, one after another.
use Rattle.std.specs.Prelude.{List, [], ◌∷◌, ℕ, ℤ, Option, Some, None, codes}
use Rattle.std.specs.FinMap as finite
use Rattle.tables_sql.specs.Contents.{Stored, Contents, numbered_cmp}
use Rattle.model.specs.World.{Path}
use Rattle.tables_world.specs.Pieces.{row_part, further_pieces}
use Rattle.tables_schema.specs.declared.schema.Schema.TheVariants.{V3}
use Rattle.tables_schema.specs.Schemas.{schema_text}

-- pieces, and some of this path
abbrev pub put_pieces : Path → List (ℤ × List ℕ) → finite.FinMap numbered_cmp (List ℕ)
    → finite.FinMap numbered_cmp (List ℕ)
put_pieces p [] m = m
put_pieces p (e ∷ es) m = put_pieces p es (finite.insert m (p, e.0) e.1)

-- an object's row with the first part of its archive, and the rest in pieces
abbrev pub cut_row : Path → Stored → Contents → Contents
cut_row p o c =
    record c {
      objects = finite.insert c.objects p (record o { nar = row_part o.nar });
      pieces = put_pieces p (further_pieces o.nar) c.pieces;
    }

-- the archive of an object cut in pieces, if there is such an object
abbrev pub cut_found : Path → Option Stored → Contents → Contents
cut_found p None c = c
cut_found p (Some o) c = cut_row p o c

abbrev pub cut_object : Path → Contents → Contents
cut_object p c = cut_found p (finite.get c.objects p) c

-- the archives of some objects cut in pieces
abbrev pub cut_objects : List Path → Contents → Contents
cut_objects [] c = c
cut_objects (p ∷ ps) c = cut_objects ps (cut_object p c)

-- the setting says the third schema
abbrev pub renumbered : Contents → Contents
renumbered c = record c { meta = finite.insert c.meta (codes "schema") (schema_text V3) }
