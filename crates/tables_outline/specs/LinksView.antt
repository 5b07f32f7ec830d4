-- What links in memory mean.
use Rattle.tables_outline.specs.Links.{AreSound, LinksValue}
use Rattle.tables_outline.specs.declared.links.Links.TheInside.{Inside}

abbrev pub links_view : Inside → LinksValue
links_view l = record {
  names = l.names;
  held = l.held;
  references = l.by_reference;
  outputs = l.by_output;
  derivers = l.by_deriver;
}

-- all that is listed has a path
abbrev pub are_sound : Inside → Type 0
are_sound l = AreSound (links_view l)
