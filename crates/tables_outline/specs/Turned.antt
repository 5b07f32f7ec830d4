-- The objects of an outline as a graph, and their links turned round.
use Rattle.std.specs.Prelude.{List, Option, IfSome}
use Rattle.std.specs.Option.{option_map}
use Rattle.std.specs.FinMap as finite
use Rattle.paths.specs.Root.{bytes_cmp}
use Rattle.live.specs.Graph.{Links}
use Rattle.model.specs.World.{Path}
use Rattle.tables_outline.specs.Links.{AreLinksOf, LinksValue}
use Rattle.tables_outline.specs.Maps.{seen_map}
use Rattle.tables_outline.specs.Outline.{Outlined}

-- the objects of some entries
abbrev pub objects_in : List (Path × Outlined) → finite.FinMap bytes_cmp Outlined
objects_in entries = seen_map bytes_cmp (λ p. p) (λ o. o) entries

-- what an object points to
abbrev pub links_in : Outlined → Links
links_in o = record { references = finite.keys o.references; outputs = finite.values o.outputs; deriver = o.deriver }

-- what the object of a path points to, if there is one
abbrev pub links_of : finite.FinMap bytes_cmp Outlined → Path → Option Links
links_of objects p = option_map links_in (finite.get objects p)

-- links, if they are kept, are those of the objects, turned round
abbrev pub AreTurned : finite.FinMap bytes_cmp Outlined → Option LinksValue → Type 0
AreTurned objects links = IfSome links (AreLinksOf (links_of objects))
