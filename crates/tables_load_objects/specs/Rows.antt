-- The rows of one object, and those of all objects that are in other tables, read.
use Rattle.std.specs.Prelude.{◌≡◌, List, Option, Some, None, MatchOption, map}
use Rattle.std.specs.FinMap as finite
use Rattle.std.specs.List.{AllByRecursion}
use Rattle.tables_rows.specs.declared.objects.Object.{Object}
use Rattle.tables_sql.specs.Contents.{Contents}
use Rattle.tables_rows.specs.Entries.{stored_of, reference_of, output_of, numbered_in}
use Rattle.model.specs.World.{Path}
use Rattle.tables_world.specs.Rows.{pieces_in}
use Rattle.tables_world.specs.Worlds.{rows_of}
use Rattle.tables_load_objects.specs.Cut.{parts_of}
use Rattle.tables_load_objects.specs.declared.object_rows.ObjectRows.{ObjectRows}
use Rattle.tables_load_objects.specs.declared.joined.Joined.{Joined}

-- the row of an object, and its pieces in order
pub record AreRowsOf (c : Contents) (p : Path) (r : ObjectRows) : Type 0 where
  pub base : (stored_of r.object).0 ≡ p
  pub object : finite.get c.objects p ≡ Some (stored_of r.object).1
  pub pieces : parts_of r.pieces.items ≡ finite.entries (pieces_in (rows_of c) p)

-- the rows at a path, if an object is there
abbrev pub AreRowsAt : Contents → Path → Option ObjectRows → Type 0
AreRowsAt c p o = MatchOption o (finite.get c.objects p ≡ None) (AreRowsOf c p)

-- each is the object of its path
abbrev pub AreStored : Contents → List Object → Type 0
AreStored c all = AllByRecursion (λ o. finite.get c.objects (stored_of o).0 ≡ Some (stored_of o).1) all

-- all references and outputs, and which pieces there are
pub record AreJoined (c : Contents) (all : Joined) : Type 0 where
  pub references : map reference_of all.references.items ≡ finite.entries c.refs
  pub outputs : map output_of all.outputs.items ≡ finite.entries c.outs
  pub pieces : map numbered_in all.pieces.items ≡ finite.keys c.pieces
