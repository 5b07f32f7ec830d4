-- The roots of an outline.
use Rattle.std.specs.FinMap as finite
use Rattle.model.specs.World.{World}
use Rattle.tables_outline.specs.Outline.{OutlineValue}

-- a world without objects that has the roots of an outline
abbrev pub rooted : OutlineValue → World
rooted o = record {
  objects = finite.empty;
  permanent = o.permanent;
  user_roots = o.user_roots;
  profiles = o.profiles;
  runtime = o.runtime;
  temporary = o.temporary;
}
