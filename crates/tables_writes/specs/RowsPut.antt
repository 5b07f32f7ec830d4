-- The rows that each write puts.
use Rattle.std.specs.Prelude.{◌≡◌, ℕ, ℤ, pos, List, [], ◌∷◌, Option, Some, None}
use Rattle.std.specs.FinMap as finite
use Rattle.sqlite_value.specs.declared.value.Value.TheVariants.{Int, Text}
use Rattle.tables_schema.specs.Forms.{refs, outs, permanent, user_root, profile, generation, runtime, temp_root}
use Rattle.tables_sql.specs.Contents.{Stored}
use Rattle.model.specs.World.{Path, Pair, Temporary}
use Rattle.tables_world.specs.Rows.{address_in}
use Rattle.tables_world.specs.Pieces.{row_part, further_pieces}
use Rattle.tables_outline.specs.Outline.{Outlined}
use Rattle.tables_rows.specs.Reasons.{Rows, Both, IsRow, RowsOf}
use Rattle.tables_rows.specs.ObjectRows.{ObjectRow, PieceRow}
use Rattle.tables_writes.specs.declared.named_roots.RootName.{RootName}
use Rattle.tables_writes.specs.declared.named_roots.RootName.TheVariants.{Permanent, User}

-- ---- roots

abbrev pub PermanentRow : List ℕ → Path → Rows
PermanentRow name target = IsRow permanent (Text name ∷ Text target ∷ [])

abbrev pub UserRootRow : Pair → Path → Rows
UserRootRow owned target = IsRow user_root (Text owned.0 ∷ Text owned.1 ∷ Text target ∷ [])

-- a root by its name
abbrev pub RootRow : RootName → Path → Rows
RootRow (Permanent name) target = PermanentRow name.now target
RootRow (User owner name) target = UserRootRow (owner.now, name.now) target

-- a runtime root: its label and its target
abbrev pub RuntimeRow : Pair → Rows
RuntimeRow p = IsRow runtime (Text p.0 ∷ Text p.1 ∷ [])

abbrev pub TemporaryRow : Temporary → Rows
TemporaryRow t = IsRow temp_root (Text t.owner ∷ Int (pos t.session) ∷ Text t.path ∷ [])

-- ---- profiles

-- a profile with its current number
abbrev pub ProfileRow : Pair → ℕ → Rows
ProfileRow owned current = IsRow profile (Text owned.0 ∷ Text owned.1 ∷ Int (pos current) ∷ [])

-- a path at a number of a profile
abbrev pub PathRow : Pair → ℕ → Path → Rows
PathRow owned n target = IsRow generation (Text owned.0 ∷ Text owned.1 ∷ Int (pos n) ∷ Text target ∷ [])

-- a profile, and a path at a number of it
abbrev pub GenerationRows : Pair → ℕ → Path → ℕ → Rows
GenerationRows owned n target current = Both (ProfileRow owned current) (PathRow owned n target)

-- a profile, and a path at a number of it, if one is given
abbrev pub NumberedRows : Pair → Option (ℕ × Path) → ℕ → Rows
NumberedRows owned None current = ProfileRow owned current
NumberedRows owned (Some e) current = GenerationRows owned e.0 e.1 current

-- ---- objects

abbrev pub ReferenceRow : Path → Path → Rows
ReferenceRow p target = IsRow refs (Text p ∷ Text target ∷ [])

-- an output: its name and its path
abbrev pub OutputRow : Path → List ℕ × Path → Rows
OutputRow p e = IsRow outs (Text p ∷ Text e.0 ∷ Text e.1 ∷ [])

-- an object, as its rows hold it, with its references, its outputs and the further pieces of its archive
abbrev pub ObjectRows : Path → Stored → List Path → List (List ℕ × Path) → List (ℤ × List ℕ) → Rows
ObjectRows p o references outputs pieces =
    Both (ObjectRow p o)
    (Both (RowsOf (ReferenceRow p) references) (Both (RowsOf (OutputRow p) outputs) (RowsOf (PieceRow p) pieces)))

-- the rows of an archive and its summary, with this text of the content address
abbrev pub RowsWithAddress : Path → List ℕ → Outlined → Option (List ℕ) → Rows
RowsWithAddress p nar o ca =
    ObjectRows p (record { nar = row_part nar; hash = o.hash; deriver = o.deriver; ca = ca }) (finite.keys o.references)
    (finite.entries o.outputs) (further_pieces nar)

-- the same, whichever text of the content address it is
abbrev pub AddedRows : Path → List ℕ → Outlined → Rows
AddedRows p nar o = record {
  count = (RowsWithAddress p nar o None).count;
  has = λ t row. (ca : Option (List ℕ)) × (address_in ca ≡ o.ca) × (RowsWithAddress p nar o ca).has t row;
}
