-- Objects that are tested and put into an outline, one after another.
use Rattle.std.specs.Prelude.{◌≡◌, ◌&&◌, ℕ, ℤ, Bool, List, [], ◌∷◌, Option, Some, None, IsTrue}
use Rattle.std.specs.FinMap as finite
use Rattle.paths.specs.StorePath.{is_base_name}
use Rattle.paths.specs.Root.{bytes_cmp}
use Rattle.tables_sql.specs.Contents.{Contents, Numbered, Stored}
use Rattle.model.specs.World.{Path, Pair}
use Rattle.tables_world.specs.Rows.{Rows, pieces_in, archive_in, references_in, outputs_in, object_in}
use Rattle.tables_schema.specs.declared.schema.Schema.{Schema}
use Rattle.tables_schema.specs.Schemas.{has_pieces}
use Rattle.tables_world.specs.Worlds.{rows_of}
use Rattle.tables_world.specs.Parts.{IsSoundRow, AreSoundObjects}
use Rattle.tables_world.specs.Pieces.{IsCut}
use Rattle.tables_outline.specs.Maps.{put_all}
use Rattle.tables_outline.specs.Outline.{Outlined, outlined}

abbrev pub Objects : Type 0
Objects = finite.FinMap bytes_cmp Outlined

-- the objects of a list
abbrev pub filled : List (Path × Outlined) → Objects
filled all = put_all all finite.empty

-- an object's row and its pieces are cut the right way, where there is a table of pieces
abbrev pub IsCutBy : Schema → List ℕ → List (ℤ × List ℕ) → Type 0
IsCutBy schema row parts = IsTrue (has_pieces schema) → IsCut row parts

-- a path is an object's, whose rows are sound
pub record IsSoundOne (schema : Schema) (dir : List ℕ) (c : Contents) (p : Path) : Type 0 where
  pub stored : Stored
  pub found : finite.get c.objects p ≡ Some stored
  pub cut : IsCutBy schema stored.nar (finite.entries (pieces_in (rows_of c) p))
  pub row : IsSoundRow dir p stored (archive_in (rows_of c) p stored) (references_in (rows_of c) p)
      (outputs_in (rows_of c) p)

-- the objects with one more, if it is there
abbrev pub with_stored : Contents → Path → Option Stored → Objects → Objects
with_stored c p None m = m
with_stored c p (Some o) m = finite.insert m p (outlined (object_in (rows_of c) p o))

abbrev pub with_object : Contents → Path → Objects → Objects
with_object c p m = with_stored c p (finite.get c.objects p) m

-- with several more
abbrev pub with_objects : Contents → List Path → Objects → Objects
with_objects c [] m = m
with_objects c (p ∷ ps) m = with_objects c ps (with_object c p m)

-- ---- rows compared with the objects

-- a base name, and an object's
abbrev pub is_object : Objects → Path → Bool
is_object objects p = is_base_name p && finite.contains_key objects p

-- a reference is one of an object to an object
abbrev pub is_reference : Objects → Pair × Unit {0} → Bool
is_reference objects e = is_object objects e.0.0 && is_object objects e.0.1

-- an output is an object's
abbrev pub is_output : Objects → Pair × Path → Bool
is_output objects e = is_object objects e.0.0

-- a piece is one of an object's archive
abbrev pub is_owned : Objects → Numbered → Bool
is_owned objects k = is_object objects k.0

-- The objects are sound with their references and outputs; each archive is cut the right way, where there is a table of
-- pieces, and each piece is one of an object's archive.
pub record AreSoundInPieces (schema : Schema) (dir : List ℕ) (c : Rows) : Type 0 where
  pub objects : AreSoundObjects dir c
  pub cut : IsTrue (has_pieces schema) → (p : Path) (o : Stored) → finite.get c.objects p ≡ Some o
      → IsCut o.nar (finite.entries (pieces_in c p))
  pub pieces : (p : Path) (n : ℤ) → IsTrue (finite.contains_key c.pieces (p, n))
      → IsTrue (finite.contains_key c.objects p)
