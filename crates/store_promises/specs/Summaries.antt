-- The record of an object by its summary, without its archive.
use Rattle.std.specs.FinMap as finite
use Rattle.model.specs.World.{Path}
use Rattle.tables_outline.specs.Outline.{Outlined}
use Rattle.model.specs.Reply.{Info}

-- the record of an object
abbrev pub info_in : Path → Outlined → Info
info_in p o =
    record {
      path = p;
      hash = o.hash;
      size = o.size;
      references = finite.keys o.references;
      deriver = o.deriver;
      ca = o.ca;
    }
