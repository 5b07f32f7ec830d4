-- What the objects in memory mean.
use Rattle.std.specs.FinMap as finite
use Rattle.paths.specs.Root.{bytes_cmp}
use Rattle.tables_outline.specs.Outline.{Outlined}
use Rattle.tables_outline.specs.Turned.{AreTurned, objects_in}
use Rattle.tables_outline.specs.declared.object_map.Objects.TheInside.{Inside}

abbrev pub objects_view : Inside → finite.FinMap bytes_cmp Outlined
objects_view i = objects_in i.map.entries

-- links that are kept are those of the objects
abbrev pub are_turned : Inside → Type 0
are_turned i = AreTurned (objects_view i) i.links
